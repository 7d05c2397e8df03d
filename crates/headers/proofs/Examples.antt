-- Encodings at the seams, computed from the definition. Assumes nothing.
use mathlib.Core.Path.{◌≡◌, refl}
use mathlib.Core.List.{[], ◌∷◌, ◌++◌}
use Rattle.headers.specs.Encode.{tag_bytes, length_bytes, header, object}

-- 127, 128, 255, 256 and 65,535 as lengths
pub lengths : length_bytes 127 ++ (length_bytes 128 ++ (length_bytes 255 ++ (length_bytes 256 ++ length_bytes 65535)))
    ≡ 0x7F ∷ 0x81 ∷ 0x80 ∷ 0x81 ∷ 0xFF ∷ 0x82 ∷ 0x01 ∷ 0x00 ∷ 0x82 ∷ 0xFF ∷ 0xFF ∷ []
unfolding length_bytes
lengths = refl

-- a tag of two bytes
pub version : object 0x5F29 (0x00 ∷ []) ≡ 0x5F ∷ 0x29 ∷ 0x01 ∷ 0x00 ∷ []
unfolding object header tag_bytes length_bytes
version = refl

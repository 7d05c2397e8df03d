-- Worked examples of the definitions, computed. Assumes nothing.
use Rattle.std.specs.Prelude.{Some, None}
use mathlib.Core.Path.{◌≡◌, refl}
use mathlib.Core.List.{[], ◌∷◌}
use mathlib.Core.Bool.{false}
use lib.ListN.{replicate}
use Rattle.objects.specs.Objects.{header, tag_of, second_tag_byte, len_of, length_after_81, length_after_82, header_of, objects_of, objects, objects_in}

-- P10: length 81 7F is refused, and 81 80 is read
pub p10-refused : header_of (0x5F ∷ 0x37 ∷ 0x81 ∷ 0x7F ∷ replicate 127 0) ≡ None
unfolding header_of tag_of second_tag_byte len_of length_after_81
p10-refused = refl

pub p10-read : header_of (0x5F ∷ 0x37 ∷ 0x81 ∷ 0x80 ∷ replicate 128 0) ≡ header 0x5F37 false 4 132
unfolding header_of tag_of second_tag_byte len_of length_after_81
p10-read = refl

-- an empty list at depth 8 is fine
pub empty-at-8 : objects_in (0x30 ∷ 12 ∷ 0x30 ∷ 10 ∷ 0x30 ∷ 8 ∷ 0x30 ∷ 6 ∷ 0x30 ∷ 4 ∷ 0x30 ∷ 2 ∷ 0x30 ∷ 0 ∷ []) ≡ Some 7
unfolding objects_in objects objects_of header_of tag_of second_tag_byte len_of
empty-at-8 = refl

-- an object in seven nests is at depth 8, and an eighth nest is refused, empty though it is
pub depth-8 : objects_in (0x30 ∷ 14 ∷ 0x30 ∷ 12 ∷ 0x30 ∷ 10 ∷ 0x30 ∷ 8 ∷ 0x30 ∷ 6 ∷ 0x30 ∷ 4 ∷ 0x30 ∷ 2 ∷ 0x04 ∷ 0 ∷ []) ≡ Some 8
unfolding objects_in objects objects_of header_of tag_of second_tag_byte len_of
depth-8 = refl

pub depth-9 : objects_in (0x30 ∷ 14 ∷ 0x30 ∷ 12 ∷ 0x30 ∷ 10 ∷ 0x30 ∷ 8 ∷ 0x30 ∷ 6 ∷ 0x30 ∷ 4 ∷ 0x30 ∷ 2 ∷ 0x30 ∷ 0 ∷ []) ≡ None
unfolding objects_in objects objects_of header_of tag_of second_tag_byte len_of
depth-9 = refl

pub sixty-four : objects_in (replicate 128 0) ≡ Some 64
unfolding objects_in objects objects_of header_of tag_of second_tag_byte len_of
sixty-four = refl

pub sixty-five : objects_in (replicate 130 0) ≡ None
unfolding objects_in objects objects_of header_of tag_of second_tag_byte len_of
sixty-five = refl

-- 82 00 FF is longer than needed
pub long-refused : header_of (0x5F ∷ 0x37 ∷ 0x82 ∷ 0x00 ∷ 0xFF ∷ replicate 255 0) ≡ None
unfolding header_of tag_of second_tag_byte len_of length_after_82
long-refused = refl

-- any tag byte counts as a tag, 00 too
pub zeros : objects_in (0x65 ∷ 2 ∷ 0 ∷ 0 ∷ []) ≡ Some 2
unfolding objects_in objects objects_of header_of tag_of second_tag_byte len_of
zeros = refl

-- The bytes of a data object: the one encoding of its tag, its length and its content. Assumes nothing: these are definitions.
use Rattle.std.specs.Prelude.{ℕ, ◌+◌, ◌/◌, ◌%◌, ◌<◌, Bool, cond, not, ◌&&◌, List, [], ◌∷◌, ◌++◌, ltb, leb, eqb, length}
use Rattle.objects.specs.Objects.{nest_bit}

-- a string of bytes
pub data Bytes : List ℕ → Type 0 where
  none : Bytes []
  more : {b : ℕ} {s : List ℕ} → b < 256 → Bytes s → Bytes (b ∷ s)

-- "A tag has one byte, or two"
unfoldable pub tag_bytes : ℕ → List ℕ
tag_bytes t = cond (ltb t 256) (t ∷ []) (t / 256 ∷ t % 256 ∷ [])

-- a number that is a tag: "two if the first's low five bits are ones; the second is then 1F..7F"
unfoldable pub is_tag : ℕ → Bool
is_tag t = cond (ltb t 256) (not (eqb (t % 0x20) 0x1F)) (ltb t 65536 && (eqb (t / 256 % 0x20) 0x1F && (leb 0x1F (t % 256) && leb (t % 256) 0x7F)))

-- "Bit 20 (hex) of the first tag byte means nested objects"
unfoldable pub nests : ℕ → Bool
nests t = cond (ltb t 256) (nest_bit t) (nest_bit (t / 256))

-- "Lengths 0..127 in one byte, 128..255 after 81, 256 and more after 82; never longer than needed"
unfoldable pub length_bytes : ℕ → List ℕ
length_bytes n = cond (ltb n 128) (n ∷ []) (cond (ltb n 256) (0x81 ∷ n ∷ []) (0x82 ∷ n / 256 ∷ n % 256 ∷ []))

-- the greatest length that can be said: two bytes after 82
abbrev pub longest_content : ℕ
longest_content = 65535

unfoldable pub header : ℕ → ℕ → List ℕ
header tag n = tag_bytes tag ++ length_bytes n

unfoldable pub object : ℕ → List ℕ → List ℕ
object tag content = header tag (length content) ++ content

-- an object with content of n bytes is so long
abbrev pub size_of : ℕ → ℕ → ℕ
size_of tag n = length (header tag n) + n

-- the object that is written: nothing where no length says how long its content is
unfoldable pub object_of : ℕ → List ℕ → List ℕ
object_of tag content = cond (leb (length content) longest_content) (object tag content) []

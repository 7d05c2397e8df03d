-- Data objects, as document 01 has them ("Data objects"): the header at the start of a byte list, the objects that a list
-- holds, and the object with an expected tag. Assumes nothing: these are definitions.
use Rattle.std.specs.Prelude.{ℕ, zero, suc, ◌+◌, ◌-◌, ◌*◌, ◌/◌, ◌%◌, List, [], ◌∷◌, Bool, cond, not, ◌&&◌, ◌||◌, length, take, drop, leb, ltb, eqb, Option, Some, None}
use Rattle.objects.specs.declared.Label.{Label}
use Rattle.objects.specs.declared.Extent.{Extent}
use Rattle.objects.specs.declared.Header.{Header}
use Rattle.objects.specs.declared.Object.{Object}
use Rattle.objects.specs.declared.Content.{Content}

-- ---- what is read, said by its parts

abbrev pub label : (tag : ℕ) (nests : Bool) (size : ℕ) → Option Label
label tag nests size = Some (record { tag = tag; nests = nests; size = size })

abbrev pub extent : (len size : ℕ) → Option Extent
extent len size = Some (record { len = len; size = size })

abbrev pub header : (tag : ℕ) (nests : Bool) (start end : ℕ) → Option Header
header tag nests start end = Some (record { tag = tag; nests = nests; start = start; end = end })

abbrev pub counting : (end count : ℕ) → Option Object
counting end count = Some (record { end = end; count = count })

abbrev pub content : (start end : ℕ) → Option Content
content start end = Some (record { start = start; end = end })

-- ---- a header

-- bit 20 (hex) of a tag's first byte: objects are nested
abbrev pub nest_bit : ℕ → Bool
nest_bit a = eqb (a / 0x20 % 2) 1

-- a tag of two bytes: the second is 1F..7F
unfoldable pub second_tag_byte : ℕ → List ℕ → Option Label
second_tag_byte a [] = None
second_tag_byte a (b ∷ s) = cond (leb 0x1F b && leb b 0x7F) (label (a * 256 + b) (nest_bit a) 2) None

-- two bytes if the first's low five bits are ones
unfoldable pub tag_of : List ℕ → Option Label
tag_of [] = None
tag_of (a ∷ s) = cond (eqb (a % 0x20) 0x1F) (second_tag_byte a s) (label a (nest_bit a) 1)

-- after 81: 128..255
unfoldable pub length_after_81 : List ℕ → Option Extent
length_after_81 [] = None
length_after_81 (b ∷ s) = cond (leb 128 b) (extent b 2) None

-- after 82: 256 and more
unfoldable pub length_after_82 : List ℕ → Option Extent
length_after_82 [] = None
length_after_82 (b ∷ []) = None
length_after_82 (b ∷ c ∷ s) = cond (leb 256 (b * 256 + c)) (extent (b * 256 + c) 3) None

unfoldable pub len_of : List ℕ → Option Extent
len_of [] = None
len_of (a ∷ s) = cond (ltb a 128) (extent a 1) (cond (eqb a 0x81) (length_after_81 s) (cond (eqb a 0x82) (length_after_82 s) None))

-- tag, then length, then that many bytes of content, from start up to end
abbrev pub placed : (tag : ℕ) (nests : Bool) (n : ℕ) → Option Extent → List ℕ → Option Header
placed tag nests n None s = None
placed tag nests n (Some l) s = cond (leb (n + l.size + l.len) (length s)) (header tag nests (n + l.size) (n + l.size + l.len)) None

abbrev pub labelled : Option Label → List ℕ → Option Header
labelled None s = None
labelled (Some l) s = placed l.tag l.nests l.size (len_of (drop l.size s)) s

unfoldable pub header_of : List ℕ → Option Header
header_of s = labelled (tag_of s) s

-- ---- the objects of a list

-- the bytes from a up to e
abbrev pub part : (a e : ℕ) → List ℕ → List ℕ
part a e s = take (e - a) (drop a s)

-- an object that ends at e: itself and those in its content
abbrev pub closed : ℕ → Option ℕ → Option Object
closed e None = None
closed e (Some n) = counting e (n + 1)

-- the object at the start of s, with d levels below it allowed; `inner` reads its content
abbrev pub object_by : (ℕ → List ℕ → Option ℕ) → ℕ → List ℕ → Option Header → Option Object
object_by inner d s None = None
object_by inner d s (Some h) =
    cond h.nests (cond (eqb d 0) None (closed h.end (inner (d - 1) (part h.start h.end s)))) (counting h.end 1)

abbrev pub plus : ℕ → Option ℕ → Option ℕ
plus m None = None
plus m (Some n) = Some (m + n)

abbrev pub then_rest : (List ℕ → Option ℕ) → List ℕ → Option Object → Option ℕ
then_rest rest s None = None
then_rest rest s (Some o) = plus o.count (rest (drop o.end s))

-- the objects of s, with d levels below this list allowed; k is fuel (`objects` has enough)
unfoldable pub objects_of : (k d : ℕ) → List ℕ → Option ℕ
objects_of zero d s = None
objects_of (suc k) d s =
    cond (eqb (length s) 0) (Some 0) (then_rest (objects_of k d) s (object_by (objects_of k) d s (header_of s)))

unfoldable pub objects : ℕ → List ℕ → Option ℕ
objects d s = objects_of (suc (length s)) d s

unfoldable pub object : ℕ → List ℕ → Option Object
object d s = object_by objects d s (header_of s)

-- no more than so many objects
abbrev pub within : ℕ → Option ℕ → Option ℕ
within left None = None
within left (Some n) = cond (leb n left) (Some n) None

abbrev pub within_one : ℕ → Option Object → Option Object
within_one left None = None
within_one left (Some o) = cond (leb o.count left) (Some o) None

-- "At most 64 objects in one reading"; "A nest inside a nest may go to depth 8; the top list is depth 1"
abbrev pub allowance : ℕ
allowance = 64

abbrev pub deepest : ℕ
deepest = 8

-- a list that stands at a depth
abbrev pub objects_at : ℕ → List ℕ → Option ℕ
objects_at depth s = objects (deepest - depth) s

-- a reading: the top list, and at most so many objects
unfoldable pub objects_in : List ℕ → Option ℕ
objects_in s = within allowance (objects_at 1 s)

-- ---- the object with an expected tag at the start of s, nesting objects or not

abbrev pub alike : Bool → Bool → Bool
alike a b = (a && b) || (not a && not b)

abbrev pub tagged : ℕ → Bool → Option Header → Option Content
tagged t n None = None
tagged t n (Some h) = cond (eqb h.tag t && alike h.nests n) (content h.start h.end) None

unfoldable pub found_in : ℕ → Bool → List ℕ → Option Content
found_in t n s = tagged t n (header_of s)

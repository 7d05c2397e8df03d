-- Bytes in hex. Assumes nothing: these are definitions.
use Rattle.std.specs.Prelude.{ℕ, ◌+◌, ◌*◌, ◌/◌, ◌%◌, Bool, cond, ◌&&◌, ◌||◌, List, [], ◌∷◌, eqb, leb, length, Option, Some, None}
use Rattle.strings.specs.Bytes.{eqbs}
use Rattle.digits.specs.Digits.{glyph, worth, all_digits}

-- two digits a byte
abbrev pub pairs : List ℕ → List ℕ
pairs [] = []
pairs (b ∷ s) = glyph (b / 16) ∷ glyph (b % 16) ∷ pairs s

abbrev pub dash : List ℕ
dash = 0x2D ∷ []

-- `-` for no bytes; answers are upper-case hex
unfoldable pub hex_of : List ℕ → List ℕ
hex_of s = cond (eqb (length s) 0) dash (pairs s)

-- a byte for two digits; what is left of an odd number of them is none
abbrev pub bytes_of : List ℕ → List ℕ
bytes_of [] = []
bytes_of (a ∷ []) = []
bytes_of (a ∷ b ∷ s) = (worth a * 16 + worth b) ∷ bytes_of s

-- bytes are hex in either case, `-` for no bytes
unfoldable pub is_hex : List ℕ → Bool
is_hex w = eqbs w dash || (leb 1 (length w) && eqb (length w % 2) 0 && all_digits 16 w)

-- whether a word is hex, and its bytes have room
abbrev pub readable : ℕ → List ℕ → Bool
readable room w = is_hex w && leb (length w / 2) room

-- what a word is read as, and what that writes from the buffer's start
unfoldable pub hex_read : ℕ → List ℕ → Option ℕ
hex_read room w = cond (readable room w) (Some (length w / 2)) None

unfoldable pub hex_laid : ℕ → List ℕ → List ℕ
hex_laid room w = cond (readable room w) (bytes_of w) []

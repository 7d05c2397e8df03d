-- "Forms by ISO 7816-3": 4 bytes; 5 with Le; Lc nonzero with 5+Lc or 6+Lc bytes; fifth byte 00 with 7 bytes, or a nonzero
-- two-byte Lc with 7+Lc or 9+Lc. Other lengths, and over the limit, are wrong. Assumes nothing: these are definitions.
use Rattle.std.specs.Prelude.{ℕ, ◌+◌, ◌*◌, cond, List, [], ◌∷◌, leb, ltb, eqb, length, drop, Option, Some, None}
use Rattle.form.specs.declared.Form.{Form}
use Rattle.form.specs.declared.Lc.{Lc}
use Rattle.form.specs.declared.Lc.TheVariants.{Short, Extended}

-- "a command (1,024 bytes at most)"
abbrev pub command_limit : ℕ
command_limit = 1024

-- two bytes, highest first
abbrev pub pair_of : ℕ → ℕ → ℕ
pair_of a b = a * 256 + b

-- no data
abbrev pub bare : Option ℕ → Option Form
bare le = Some (record { start = 4; end = 4; le = le })

-- what follows the data: nothing (5+Lc), or Le (6+Lc)
unfoldable pub after_short : ℕ → List ℕ → Option Form
after_short lc [] = Some (record { start = 5; end = 5 + lc; le = None })
after_short lc (e ∷ []) = Some (record { start = 5; end = 5 + lc; le = Some e })
after_short lc (e ∷ f ∷ s) = None

-- nothing (7+Lc), or an Le of two bytes (9+Lc)
unfoldable pub after_long : ℕ → List ℕ → Option Form
after_long lc [] = Some (record { start = 7; end = 7 + lc; le = None })
after_long lc (d ∷ []) = None
after_long lc (d ∷ e ∷ []) = Some (record { start = 7; end = 7 + lc; le = Some (pair_of d e) })
after_long lc (d ∷ e ∷ f ∷ s) = None

-- Lc bytes of data, and what follows them
unfoldable pub data_then : (ℕ → List ℕ → Option Form) → ℕ → List ℕ → Option Form
data_then after lc s = cond (leb lc (length s)) (after lc (drop lc s)) None

-- fifth byte 00: an Le of two bytes (7 bytes), or a nonzero Lc of two bytes
unfoldable pub extended_of : List ℕ → Option Form
extended_of [] = None
extended_of (d ∷ []) = None
extended_of (d ∷ e ∷ []) = bare (Some (pair_of d e))
extended_of (d ∷ e ∷ f ∷ s) = cond (eqb (pair_of d e) 0) None (data_then after_long (pair_of d e) (f ∷ s))

-- after the four header bytes: nothing, Le, or a fifth byte with what follows
unfoldable pub after_four : List ℕ → Option Form
after_four [] = bare None
after_four (n ∷ []) = bare (Some n)
after_four (n ∷ d ∷ s) = cond (eqb n 0) (extended_of (d ∷ s)) (data_then after_short n (d ∷ s))

unfoldable pub after_header : List ℕ → Option Form
after_header [] = None
after_header (a ∷ []) = None
after_header (a ∷ b ∷ []) = None
after_header (a ∷ b ∷ c ∷ []) = None
after_header (a ∷ b ∷ c ∷ d ∷ s) = after_four s

unfoldable pub form_of : List ℕ → Option Form
form_of s = cond (ltb command_limit (length s)) None (after_header s)

-- ---- as the code tests them, by the bytes of Lc

abbrev pub bytes_of : Lc → ℕ
bytes_of (Short lc) = lc
bytes_of (Extended lc) = lc

abbrev pub formed : Lc → Option ℕ → Option Form
formed (Short lc) le = Some (record { start = 5; end = 5 + lc; le = le })
formed (Extended lc) le = Some (record { start = 7; end = 7 + lc; le = le })

unfoldable pub after : Lc → List ℕ → Option Form
after (Short lc) = after_short lc
after (Extended lc) = after_long lc

unfoldable pub data_by : Lc → List ℕ → Option Form
data_by (Short lc) = data_then after_short lc
data_by (Extended lc) = data_then after_long lc

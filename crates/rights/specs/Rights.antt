-- Rights: "06 with 04 00 7F 00 07 03 01 02 02, then 53 with five bytes, highest first. Top two bits: 11 CVCA, 10 domestic
-- official DV, 01 other DV, 00 terminal. Bit 7+n reads group n, 1..21; 5 PIN management; 4 CAN allowed."
-- Assumes nothing: these are definitions.
use Rattle.std.specs.Prelude.{ℕ, zero, suc, ◌+◌, ◌-◌, ◌*◌, ◌/◌, ◌%◌, ◌^◌, min, List, [], ◌∷◌, Bool, cond, ◌&&◌, length, take, drop, eqb, ltb, Option, Some, None}
use Rattle.strings.specs.Bytes.{eqbs, among, number}
use Rattle.rights.specs.declared.Rights.{Rights}
use Rattle.roles.specs.declared.Role.{Role}
use Rattle.roles.specs.declared.Role.TheVariants.{Cvca, OfficialDv, OtherDv, Terminal}

-- the width of a rights value: its top two bits are the role, the others rights
abbrev pub width : ℕ
width = 40

abbrev pub low : ℕ
low = width - 2

unfoldable pub rights_fit : Rights → Bool
rights_fit r = ltb r.0 (2 ^ width)

-- 11 CVCA, 10 domestic official DV, 01 other DV, 00 terminal
abbrev pub role_at : ℕ → Role
role_at top = cond (eqb top 3) Cvca (cond (eqb top 2) OfficialDv (cond (eqb top 1) OtherDv Terminal))

unfoldable pub role_of : Rights → Role
role_of r = role_at (r.0 / 2 ^ low % 4)

-- ---- from bytes

-- 06 with 04 00 7F 00 07 03 01 02 02, then the header of 53 with five bytes
abbrev pub template : List ℕ
template = 0x06 ∷ 9 ∷ 0x04 ∷ 0x00 ∷ 0x7F ∷ 0x00 ∷ 0x07 ∷ 0x03 ∷ 0x01 ∷ 0x02 ∷ 0x02 ∷ 0x53 ∷ 5 ∷ []

unfoldable pub is_rights : List ℕ → Bool
is_rights c = eqb (length c) (length template + 5) && eqbs (take (length template) c) template

-- highest first; of bytes the five are never more than the width, and of other numbers they are cut to it
abbrev pub rights_of : List ℕ → ℕ
rights_of c = number 256 0 (drop (length template) c) % 2 ^ width

unfoldable pub granted : List ℕ → Option Rights
granted c = cond (is_rights c) (Some (record { 0 = rights_of c })) None

-- ---- bits

-- bit k of a number
abbrev pub has_bit : ℕ → ℕ → Bool
has_bit k x = eqb (x / 2 ^ k % 2) 1

abbrev pub has_right : ℕ → Rights → Bool
has_right k r = has_bit k r.0

-- the bitwise AND of the low k bits
unfoldable pub and_of : (k a b : ℕ) → ℕ
and_of zero a b = 0
and_of (suc k) a b = and_of k (a / 2) (b / 2) * 2 + min (a % 2) (b % 2)

-- "the bitwise AND of the low 38 bits of trust point, DV, terminal and confirmed rights"
unfoldable pub common : (trusted dv terminal confirmed : Rights) → Rights
common trusted dv terminal confirmed = record { 0 = and_of low (and_of low (and_of low trusted.0 dv.0) terminal.0) confirmed.0 }

-- "5 PIN management; 4 CAN allowed"
abbrev pub pin_management : ℕ
pin_management = 5

abbrev pub can_allowed : ℕ
can_allowed = 4

-- "Bit 7+n reads group n, 1..21"
abbrev pub is_group : ℕ → Bool
is_group n = among 1 21 n

unfoldable pub group_mask : ℕ → ℕ
group_mask n = cond (is_group n) (2 ^ (7 + n)) 0

unfoldable pub reads_group : Rights → ℕ → Bool
reads_group r n = is_group n && has_right (7 + n) r

-- W-203: "An impossible date is 6A80, in certificates and at personalisation." 29 February of 2023, which has none, and of 2024, as first
-- day, last day, today and a trust point's day; and as a state has it stored. Assumes nothing: these are definitions.
use Rattle.std.specs.Prelude.{ℕ, true, false, ◌≡◌, List, [], ◌∷◌, ◌++◌, take, drop}
use Rattle.certificate.specs.declared.Certificate.{Certificate}
use Rattle.status.specs.Words.{word_number, intake_word}
use Rattle.bodies.specs.Body.{body_of}
use Rattle.trust.specs.Trust.{one_point}
use Rattle.token.specs.State.{start_of, made_of}
use Rattle.token.specs.Limits.{in_limits}
use Rattle.claims.specs.Values.{root, verify_dv}

-- ---- certificates

-- the body of UTDVDOM00001 up to its first day, as `verify_dv` brings it after the command's five bytes
abbrev pub before_days : List ℕ
before_days = take 144 (drop 5 verify_dv)

-- the word that this body is answered with, once it has these two days
abbrev pub body_word : (first last : List ℕ) → ℕ
body_word first last = word_number (intake_word (body_of (before_days ++ first ++ (0x5F ∷ 0x24 ∷ 0x06 ∷ last))))

-- ---- personalisation

-- UTCVCAAT00001 with these days
abbrev pub point_with : (first last : ℕ) → Certificate
point_with first last = record { name = root.name; rights = root.rights; first = record { 0 = first }; last = record { 0 = last }; key = root.key }

-- the word that it is answered with, on this day
abbrev pub made_word : Certificate → (today : ℕ) → ℕ
made_word p today = word_number (intake_word (made_of (one_point p) (record { 0 = today })))

-- ---- the list

-- 29 February 2023 and 2024 as they are written; and two days beside them, 1 February 2022 and 1 May 2026
abbrev pub leap23 : List ℕ
leap23 = 2 ∷ 3 ∷ 0 ∷ 2 ∷ 2 ∷ 9 ∷ []

abbrev pub leap24 : List ℕ
leap24 = 2 ∷ 4 ∷ 0 ∷ 2 ∷ 2 ∷ 9 ∷ []

abbrev pub earlier : List ℕ
earlier = 2 ∷ 2 ∷ 0 ∷ 2 ∷ 0 ∷ 1 ∷ []

abbrev pub later : List ℕ
later = 2 ∷ 6 ∷ 0 ∷ 5 ∷ 0 ∷ 1 ∷ []

-- the two of a row differ in the year alone
pub record LeapDays : Type 0 where
  -- first day of a certificate
  pub first-day : (body_word leap23 later ≡ 0x6A80) × (body_word leap24 later ≡ 0x9000)
  -- its last day
  pub last-day : (body_word earlier leap23 ≡ 0x6A80) × (body_word earlier leap24 ≡ 0x9000)
  -- today
  pub today : (made_word root 20230229 ≡ 0x6A80) × (made_word root 20240229 ≡ 0x9000)
  -- a trust point's first day
  pub point-first : (made_word (point_with 20230229 20281231) 20260215 ≡ 0x6A80) × (made_word (point_with 20240229 20281231) 20260215 ≡ 0x9000)
  -- and its last day
  pub point-last : (made_word (point_with 20220101 20230229) 20220301 ≡ 0x6A80) × (made_word (point_with 20220101 20240229) 20220301 ≡ 0x9000)
  -- stored as today, and with a trust point: outside the limits, or within
  pub stored-today : (in_limits (start_of (one_point root) (record { 0 = 20230229 })) ≡ false) × (in_limits (start_of (one_point root) (record { 0 = 20240229 })) ≡ true)
  pub stored-point : (in_limits (start_of (one_point (point_with 20230229 20281231)) (record { 0 = 20260215 })) ≡ false) × (in_limits (start_of (one_point (point_with 20240229 20281231)) (record { 0 = 20260215 })) ≡ true)

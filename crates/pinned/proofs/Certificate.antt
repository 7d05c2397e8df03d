-- Two permitted outcomes of each public function are equal. Assumes nothing.
use Rattle.std.specs.Prelude.{Option, Result}
use Prim.Native.Nat.{ℕ}
use mathlib.Core.Bool.{Bool}
use mathlib.Core.List.{List}
use Rattle.laws.proofs.Pinned.{Pinned, pinned}
use Rattle.days.specs.Days.{dated, day_fits, before, later}
use Rattle.certificate.specs.Certificate.{no_certificate, certificate_fits, expired, with_key, today_after}
use Rattle.status.specs.Words.{word_number, intake_word}
use Rattle.days.specs.declared.Day.{Day}
use Rattle.certificate.specs.declared.Certificate.{Certificate}
use Rattle.status.specs.declared.Unfit.{Unfit}
use Rattle.status.specs.declared.Word.{Word}

-- ---- day

pub day-of-pinned : (s : List ℕ) → Pinned (Option Day) (dated s)
day-of-pinned s = pinned _

pub day-fits-pinned : (d : Day) → Pinned Bool (day_fits d)
day-fits-pinned d = pinned _

pub before-pinned : (d other : Day) → Pinned Bool (before d other)
before-pinned d other = pinned _

pub later-pinned : (d other : Day) → Pinned Day (later d other)
later-pinned d other = pinned _

-- ---- point

pub certificate-none-pinned : Pinned Certificate no_certificate
certificate-none-pinned = pinned _

pub certificate-fits-pinned : (p : Certificate) → Pinned Bool (certificate_fits p)
certificate-fits-pinned p = pinned _

pub expired-pinned : (p : Certificate) (today : Day) → Pinned Bool (expired p today)
expired-pinned p today = pinned _

pub with-key-pinned : (p : Certificate) (key : ℕ) → Pinned Certificate (with_key p key)
with-key-pinned p key = pinned _

pub today-after-pinned : (dv terminal : Certificate) (today : Day) → Pinned Day (today_after dv terminal today)
today-after-pinned dv terminal today = pinned _

-- ---- word

pub number-pinned : (w : Word) → Pinned ℕ (word_number w)
number-pinned w = pinned _

pub intake-word-pinned : {T : Type 0} (i : Result T Unfit) → Pinned Word (intake_word i)
intake-word-pinned i = pinned _

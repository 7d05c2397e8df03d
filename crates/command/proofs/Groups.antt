-- A read that has a shape is of a group 1..21. Assumes nothing.
use Rattle.std.specs.Prelude.{Option, Some, None, Result, Ok, Err}
use Prim.Native.Nat.{ℕ, ◌-◌, ◌≤◌}
use native.Mathlib.Omega.{arith}
use mathlib.Core.Path.{◌≡◌, refl}
use mathlib.Core.Bool.{Bool, true, false, cond, not}
use mathlib.Core.List.{List, [], ◌∷◌}
use borrow.Author.Tests.{ltb-false}
use lib.Dec.{eqb, ltb}
use lib.ListN.{get_or}
use Rattle.laws.proofs.Bools.{of-both}
use Rattle.form.specs.Form.{form_of, pair_of}
use Rattle.command.specs.Kind.{Row, row, commands, listed, read_of, kind_of, class_fits, present, wants_of}
use Rattle.command.specs.Shape.{Shape, looked_up, headed_of, formed, shape_of}
use Rattle.form.specs.declared.Form.{Form}
use Rattle.command.specs.declared.kind.Kind.{Kind}
use Rattle.command.specs.declared.kind.Kind.TheVariants.{ChoosePassword, General, SelectIssuer, VerifyCertificate, Announce, Challenge, ProveTerminal, ChooseChipKey, Read, ChangePin, Unblock, Activate, Deactivate}
use Rattle.command.specs.declared.Fault.{Fault}
use Rattle.command.specs.declared.Fault.TheVariants.{Instruction, Parameters}

abbrev pub GroupIn : Kind → Type 0
GroupIn ChoosePassword = Unit {0}
GroupIn General = Unit {0}
GroupIn SelectIssuer = Unit {0}
GroupIn VerifyCertificate = Unit {0}
GroupIn Announce = Unit {0}
GroupIn Challenge = Unit {0}
GroupIn ProveTerminal = Unit {0}
GroupIn ChooseChipKey = Unit {0}
GroupIn (Read n) = (1 ≤ n) × (n ≤ 21)
GroupIn ChangePin = Unit {0}
GroupIn Unblock = Unit {0}
GroupIn Activate = Unit {0}
GroupIn Deactivate = Unit {0}

abbrev LookupIn : Result Kind Fault → Type 0
LookupIn (Err f) = Unit {0}
LookupIn (Ok k) = GroupIn k

abbrev RowsIn : List Row → Type 0
RowsIn [] = Unit {0}
RowsIn (row i q k ∷ rows) = GroupIn k × RowsIn rows

listed_in : (rows : List Row) → RowsIn rows → (ins p : ℕ) (sofar : Result Kind Fault) → LookupIn sofar → LookupIn (listed rows ins p sofar)
listed_in [] w ins p sofar h = h
listed_in (row i q k ∷ rows) w ins p sofar h =
    of-both LookupIn (eqb ins i) (of-both LookupIn (eqb p q) w.0 (listed_in rows w.1 ins p (Err Parameters) tt)) (listed_in rows w.1 ins p sofar h)

read-in : (p1 : ℕ) → LookupIn (read_of p1)
read-in p1 = go (ltb p1 0x81) refl
  where
    top : 0x81 ≤ p1 → (b : Bool) → ltb 0x95 p1 ≡ b → LookupIn (cond b (Err Parameters) (Ok (Read (p1 - 0x80))))
    top h true e = tt
    top h false e = let l = ltb-false 0x95 p1 e in (omega arith, omega arith)

    go : (b : Bool) → ltb p1 0x81 ≡ b → LookupIn (cond b (Err Parameters) (cond (ltb 0x95 p1) (Err Parameters) (Ok (Read (p1 - 0x80)))))
    go true e = tt
    go false e = top (ltb-false p1 0x81 e) (ltb 0x95 p1) refl

kind-in : (ins p1 p2 : ℕ) → LookupIn (kind_of ins p1 p2)
unfolding kind_of
kind-in ins p1 p2 =
    of-both LookupIn (eqb ins 0xB0) (read-in p1) (listed_in commands (tt, (tt, (tt, (tt, (tt, (tt, (tt, (tt, (tt, (tt, (tt, (tt, tt)))))))))))) ins (pair_of p1 p2) (Err Instruction) tt)

-- what a shape is of
abbrev pub ShapeIn : Shape → Type 0
ShapeIn (Err f) = Unit {0}
ShapeIn (Ok c) = GroupIn c.kind

headed-in : (cla ins p1 p2 a e : ℕ) (le : Option ℕ) → ShapeIn (headed_of cla ins p1 p2 a e le)
unfolding headed_of
headed-in cla ins p1 p2 a e le = of-both ShapeIn (not (class_fits cla ins)) tt (go (kind_of ins p1 p2) (kind-in ins p1 p2))
  where
    go : (x : Result Kind Fault) → LookupIn x → ShapeIn (looked_up x cla a e le)
    go (Err f) h = tt
    go (Ok k) h = of-both ShapeIn (present (wants_of k) (ltb a e) le) h tt

pub shape-in : (s : List ℕ) → ShapeIn (shape_of s)
unfolding shape_of
shape-in s = go (form_of s)
  where
    go : (f : Option Form) → ShapeIn (formed f s)
    go None = tt
    go (Some f) = headed-in (get_or s 0 0) (get_or s 1 0) (get_or s 2 0) (get_or s 3 0) f.start f.end f.le

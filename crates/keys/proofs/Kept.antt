-- What is kept of a good key is good, and is its bytes. Assumes nothing.
use Prim.Native.Nat.{ℕ, ◌≤◌, min}
use native.Mathlib.Omega.{arith}
use mathlib.Core.Path.{◌≡◌}
use mathlib.Core.Bool.{true}
use mathlib.Core.List.{List}
use borrow.Author.Tests.{le-leb}
use lib.ListN.{length, replicate}
use Rattle.keys.specs.Keys.{places, is_key, key_of, key_bytes, key_fits, key_stands}
use Rattle.strings.proofs.Strings.{among-low, among-high, kept}

key-size : (c : List ℕ) → is_key c ≡ true → (1 ≤ length c) × (length c ≤ places)
unfolding is_key
key-size c h = (among-low 1 places (length c) h, among-high 1 places (length c) h)

pub key-bytes : (c : List ℕ) → is_key c ≡ true → key_bytes (key_of c) ≡ c
unfolding key_of
key-bytes c h = kept (replicate places 0) c (key-size c h).1

pub key-good : (c : List ℕ) → is_key c ≡ true → key_fits (key_of c) ≡ true
unfolding key_fits key_of
key-good c h = le-leb (min (length c) places) places (omega arith)

pub key-there : (c : List ℕ) → is_key c ≡ true → key_stands (key_of c) ≡ true
unfolding key_stands key_of
key-there c h = let s = key-size c h in le-leb 1 (min (length c) places) (omega arith)

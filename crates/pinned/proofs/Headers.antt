-- Any two outcomes of `headers` and `brought` that their contracts permit are equal. Assumes nothing.
use Prim.Native.Nat.{ℕ}
use mathlib.Core.Path.{◌≡◌}
use mathlib.Core.List.{List}
use Rattle.laws.proofs.Pinned.{Pinned, pinned}
use Rattle.buffers.specs.Lay.{Put}
use Rattle.buffers.specs.Room.{fitting}
use Rattle.headers.specs.Encode.{header, object_of, size_of}
use Rattle.names.specs.declared.Name.{Name}
use Rattle.keys.specs.declared.Key.{Key}
use Rattle.certificate.specs.declared.Certificate.{Certificate}
use Rattle.brought.specs.Brought.{brought_none, with_name, with_certificate, with_announced}
use Rattle.brought.specs.declared.Brought.{Brought}
use Rattle.pinned.proofs.Buffers.{put-pinned}

-- ---- headers

pub object-size-pinned : (tag n : ℕ) → Pinned ℕ (size_of tag n)
object-size-pinned tag n = pinned _

pub put-header-pinned : (at tag n : ℕ) (out : List ℕ) (r q : ℕ) (o p : List ℕ) → Put at (fitting at (header tag n) out) out o r → Put at (fitting at (header tag n) out) out p q
    → (r ≡ q) × (o ≡ p)
put-header-pinned at tag n out = put-pinned at (header tag n) out

pub put-object-pinned : (at tag : ℕ) (s out : List ℕ) (r q : ℕ) (o p : List ℕ) → Put at (fitting at (object_of tag s) out) out o r → Put at (fitting at (object_of tag s) out) out p q
    → (r ≡ q) × (o ≡ p)
put-object-pinned at tag s out = put-pinned at (object_of tag s) out

-- ---- brought

pub none-pinned : Pinned Brought brought_none
none-pinned = pinned _

pub with-name-pinned : (b : Brought) (n : Name) → Pinned Brought (with_name b n)
with-name-pinned b n = pinned _

pub with-certificate-pinned : (b : Brought) (p : Certificate) → Pinned Brought (with_certificate b p)
with-certificate-pinned b p = pinned _

pub with-announced-pinned : (b : Brought) (k : Key) → Pinned Brought (with_announced b k)
with-announced-pinned b k = pinned _

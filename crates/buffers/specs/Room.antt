-- What of a piece is written where. Assumes nothing: these are definitions.
use Rattle.std.specs.Prelude.{ℕ, ◌+◌, cond, List, [], leb, length}

-- a piece that has room from the place `at` of a buffer on; nothing of one that has not
unfoldable pub fitting : (at : ℕ) (piece buffer : List ℕ) → List ℕ
fitting at piece buffer = cond (leb (at + length piece) (length buffer)) piece []

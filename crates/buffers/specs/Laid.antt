-- A piece on a sheet: a buffer, and the place where the next piece goes. Assumes nothing: these are definitions.
use Rattle.std.specs.Prelude.{◌≡◌, ℕ, List}
use Rattle.buffers.specs.Lay.{Put}
use Rattle.buffers.specs.Room.{fitting}
use Rattle.buffers.specs.declared.Sheet.{Sheet}

-- a sheet that was `before` is now `after`: the piece stands at its place if it had room there, and the buffer is the same one
pub record Laid (piece : List ℕ) (before after : Sheet) : Type 0 where
  pub written : Put before.at (fitting before.at piece before.out.now) before.out.now after.out.now after.at
  pub same_buffer : after.out.ghost_name ≡ before.out.ghost_name

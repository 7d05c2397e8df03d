-- What an input makes of a desk. Assumes nothing: these are definitions.
use Rattle.std.specs.Prelude.{Result, Ok}
use Rattle.desk_token.specs.declared.Desk.{Desk}
use Rattle.desk_token.specs.Moves.{empty_desk}

-- lines told in turn, the first to an empty desk, each to the desk that the one before it left; what tells may change with each
pub data Told {F X E : Type 0} (step : F → Desk → X → Result Desk E → F → Type 0) (start : F) : F → Desk → Type 0 where
  untold : Told step start start empty_desk
  told : (f g : F) (d e : Desk) (x : X) → Told step start f d → step f d x (Ok e) g → Told step start g e

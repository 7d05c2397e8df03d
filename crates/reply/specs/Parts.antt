-- The objects that stand inside another one. Assumes nothing: these are definitions.
use Rattle.std.specs.Prelude.{ℕ, List, [], ◌∷◌, ◌++◌}
use Rattle.headers.specs.Encode.{object}
use Rattle.reply.specs.declared.parts.Part.{Part}

-- one after the other
abbrev pub parts_bytes : List Part → List ℕ
parts_bytes [] = []
parts_bytes (p ∷ ps) = object p.0 p.1.now ++ parts_bytes ps

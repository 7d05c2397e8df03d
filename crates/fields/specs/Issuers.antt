-- Select issuer: "83 name"; verify certificate: "7F4E, 5F37 (1 to 256 bytes)". Assumes nothing: these are definitions.
use Rattle.std.specs.Prelude.{ℕ, List, false, Option, Some, None, Ok, Err}
use Rattle.names.specs.Names.{is_name, name_of}
use Rattle.bodies.specs.Body.{Reading, signed_of}
use Rattle.taking.specs.Taking.{reading, lastly}
use Rattle.fields.specs.Given.{selecting, verifying}
use Rattle.fields.specs.declared.given.Given.{Given}

-- 83 name
unfoldable pub select_of : List ℕ → Option Given
select_of s = reading None s (lastly None 0x83 false is_name s (λ c. Some (selecting (name_of c))))

-- the issuer's name is 42
unfoldable pub verified : Reading → Option Given
verified (Ok b) = Some (verifying b.issuer b.certificate)
verified (Err u) = None

-- 7F4E, 5F37
unfoldable pub verify_of : List ℕ → Option Given
verify_of s = verified (signed_of s)

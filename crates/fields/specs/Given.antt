-- What the data of a command give: what is asked, and what is brought with it. Assumes nothing: these are definitions.
use Rattle.names.specs.declared.Name.{Name}
use Rattle.certificate.specs.declared.Certificate.{Certificate}
use Rattle.keys.specs.declared.Key.{Key}
use Rattle.brought.specs.Brought.{brought_none, with_name, with_certificate, with_announced}
use Rattle.fields.specs.declared.asked.Ask.{Ask}
use Rattle.fields.specs.declared.asked.Ask.TheVariants.{Select, Verify, Announce}
use Rattle.fields.specs.declared.given.Given.{Given}

-- with nothing brought
unfoldable pub only : Ask → Given
only a = record { ask = a; brought = brought_none }

-- the issuer's name
unfoldable pub selecting : Name → Given
selecting n = record { ask = Select; brought = with_name brought_none n }

-- the issuer's name that the certificate states, and the certificate
unfoldable pub verifying : Name → Certificate → Given
verifying n p = record { ask = Verify; brought = with_certificate (with_name brought_none n) p }

-- the terminal's name and its compressed key
unfoldable pub announcing : Name → Key → Given
announcing n k = record { ask = Announce; brought = with_announced (with_name brought_none n) k }

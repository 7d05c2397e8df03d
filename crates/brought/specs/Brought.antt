-- What a command brought: the name in 83, or in 42 of its certificate; the certificate; the key in 91. Record literals of it stand here
-- alone. Assumes nothing: these are definitions.
use Rattle.names.specs.Names.{no_name}
use Rattle.certificate.specs.Certificate.{no_certificate}
use Rattle.keys.specs.Keys.{no_key}
use Rattle.names.specs.declared.Name.{Name}
use Rattle.certificate.specs.declared.Certificate.{Certificate}
use Rattle.keys.specs.declared.Key.{Key}
use Rattle.brought.specs.declared.Brought.{Brought}

-- no name, no certificate, no key
unfoldable pub brought_none : Brought
brought_none = record { name = no_name; certificate = no_certificate; key = no_key }

-- ---- the same with one part changed

abbrev pub with_name : Brought → Name → Brought
with_name b n = record { name = n; certificate = b.certificate; key = b.key }

abbrev pub with_certificate : Brought → Certificate → Brought
with_certificate b p = record { name = b.name; certificate = p; key = b.key }

abbrev pub with_announced : Brought → Key → Brought
with_announced b k = record { name = b.name; certificate = b.certificate; key = k }

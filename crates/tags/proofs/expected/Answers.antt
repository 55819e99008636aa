use Rattle.std.specs.Prelude.{None}
use Rattle.tags.proofs.Laws.{told, spelled_names, headed}
use Rattle.schema.specs.declared.Parent.TheVariants.{TestataFlusso}
use Rattle.tags.proofs.expected.Goals as goal

pub returns-in-Beneficiario : goal.returns-in-Beneficiario
returns-in-Beneficiario c = rw c.in-Beneficiario.is (told _ _ _ _ _ _ None _ spelled_names.0 c.requires tt c.tag_at.ensures)

pub returns-in-Versante : goal.returns-in-Versante
returns-in-Versante c = rw c.in-Versante.is (told _ _ _ _ _ _ None _ spelled_names.1 c.requires tt c.tag_at-in-Versante.ensures)

pub returns-in-TestataFlusso : goal.returns-in-TestataFlusso
returns-in-TestataFlusso c = rw c.in-TestataFlusso.is (c.header_at.ensures TestataFlusso headed.1)

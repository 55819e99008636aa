-- Which rows the content of a named child has. Document 02, Req 07: "A SOSTITUZIONE line holds its structure once, after beneficiario or versante, else
-- answer 4; other operations pass it over". A line's operation is its order's: the text of tipo_operazione, as it stands.
use Rattle.std.specs.Prelude.{ℕ, ◌+◌, List, [], ◌∷◌, Bool, false, cond, eqb}
use Rattle.scan.specs.Bytes.{bytes}
use Rattle.tokens.specs.Tokens.{white_at}
use Rattle.schema.specs.declared.Parent.{Parent}
use Rattle.schema.specs.declared.Parent.TheVariants.{FlussoOrdinativi, Mandato, Reversale, InformazioniBeneficiario, InformazioniVersante, SostituzioneMandato, SostituzioneReversale, Beneficiario, Versante, MessaggiEsito, TestataMessaggio, EsitoReversali, EsitoMandati, ErroriReversali, ErroriMandati, FlussoOpi, TestataFlusso}
use Rattle.rows.specs.declared.Kept.{Kept}
use Rattle.schema.specs.Table.{name_is}
use Rattle.rows.specs.Kept.{kept_from}

-- among an order's named children: the first tipo_operazione, row 0 of its table, says exactly SOSTITUZIONE
unfoldable pub replaces : List ℕ → List Kept → Bool
replaces s [] = false
replaces s (k ∷ ks) = cond (eqb k.row 0) (name_is (bytes "SOSTITUZIONE") s (k.child.gt + 1) k.child.to) (replaces s ks)

-- an order of which it is known whether it replaces others; every other parent is as it is
abbrev pub as_replacing : Parent → Bool → Parent
as_replacing (Mandato r) b = Mandato b
as_replacing (Reversale r) b = Reversale b
as_replacing FlussoOrdinativi b = FlussoOrdinativi
as_replacing (InformazioniBeneficiario r) b = InformazioniBeneficiario r
as_replacing (InformazioniVersante r) b = InformazioniVersante r
as_replacing SostituzioneMandato b = SostituzioneMandato
as_replacing SostituzioneReversale b = SostituzioneReversale
as_replacing Beneficiario b = Beneficiario
as_replacing Versante b = Versante
as_replacing MessaggiEsito b = MessaggiEsito
as_replacing TestataMessaggio b = TestataMessaggio
as_replacing EsitoReversali b = EsitoReversali
as_replacing EsitoMandati b = EsitoMandati
as_replacing ErroriReversali b = ErroriReversali
as_replacing ErroriMandati b = ErroriMandati
as_replacing FlussoOpi b = FlussoOpi
as_replacing TestataFlusso b = TestataFlusso

-- the parent whose rows the content that begins at `at` has, where its name says p
unfoldable pub rows_for : Parent → List ℕ → ℕ → Parent
rows_for p s at = as_replacing p (replaces s (kept_from p s (white_at s at)))

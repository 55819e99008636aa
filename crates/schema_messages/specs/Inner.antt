-- The parents of an outcome message: a name for the contract of the function that looks their names up.
use Rattle.std.specs.Prelude.{Bool, true, false}
use Rattle.schema.specs.declared.Parent.{Parent}
use Rattle.schema.specs.declared.Parent.TheVariants.{FlussoOrdinativi, Mandato, Reversale, InformazioniBeneficiario, InformazioniVersante, SostituzioneMandato, SostituzioneReversale, Beneficiario, Versante, FlussoOpi, TestataFlusso, MessaggiEsito, TestataMessaggio, EsitoReversali, EsitoMandati, ErroriReversali, ErroriMandati}

abbrev pub of_message : Parent → Bool
of_message MessaggiEsito = true
of_message TestataMessaggio = true
of_message EsitoReversali = true
of_message EsitoMandati = true
of_message ErroriReversali = true
of_message ErroriMandati = true
of_message FlussoOrdinativi = false
of_message (Mandato r) = false
of_message (Reversale r) = false
of_message (InformazioniBeneficiario r) = false
of_message (InformazioniVersante r) = false
of_message SostituzioneMandato = false
of_message SostituzioneReversale = false
of_message Beneficiario = false
of_message Versante = false
of_message FlussoOpi = false
of_message TestataFlusso = false

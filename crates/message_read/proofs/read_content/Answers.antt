use Rattle.std.specs.Prelude.{Err, Ok}
use mathlib.Core.Path.{◌≡◌, refl, sym, ap, ◌∙◌}
use Rattle.scan.specs.Bytes.{is_white}
use Rattle.scan.proofs.Laws.{run_within}
use Rattle.tokens.specs.Tokens.{white_at}
use Rattle.schema.specs.declared.Parent.TheVariants.{MessaggiEsito}
use Rattle.standing.specs.Standing.{standing_at}
use Rattle.agreement.specs.Agreement.{off_from}
use Rattle.message_read.specs.Steps.{count_from, judged_at, refusal}
use Rattle.message_read.proofs.Laws.{judged_stands, gives_as}
use Rattle.message_read.proofs.read_content.Goals as goal

pub give-requires : goal.give-requires
give-requires c = let s = c.args.s.now in
    let at = c.args.at in
    let n = c.in-Ok.n in
    let e : judged_at s at ≡ Ok n = sym c.judge_content.ensures ∙ c.in-Ok.is in
    let k = judged_stands (standing_at 3 MessaggiEsito s at) (off_from s (white_at s at)) (count_from s (white_at s at)) n e in
    (rw c.white_end.ensures (run_within is_white s at c.requires.0), rw c.white_end.ensures k.0, k.1, c.requires.2)

pub returns-in-Err-Structure : goal.returns-in-Err-Structure
returns-in-Err-Structure c = gives_as c.args.s.now c.args.values.now refl (sym c.judge_content.ensures ∙ c.in-Err-Structure.is ∙ ap Err c.in-Err-Structure.field-0-is) (c.refusal.ensures, refl)

pub returns-in-Err-Field : goal.returns-in-Err-Field
returns-in-Err-Field c = gives_as c.args.s.now c.args.values.now refl (sym c.judge_content.ensures ∙ c.in-Err-Field.is ∙ ap Err c.in-Err-Field.field-0-is) (c.refusal-in-Err-Field.ensures ∙ ap (refusal 5 c.in-Err-Field.p) c.cause_number.ensures, refl)

pub returns-in-Ok : goal.returns-in-Ok
returns-in-Ok c = let s = c.args.s.now in
    let at = c.args.at in
    let n = c.in-Ok.n in
    let e : judged_at s at ≡ Ok n = sym c.judge_content.ensures ∙ c.in-Ok.is in
    gives_as s c.args.values.now (sym c.white_end.ensures) e c.give.ensures

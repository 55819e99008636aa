use native.Mathlib.Omega.{arith}
use Rattle.tree.specs.Orders.{mandato_words, reversale_words}
use Rattle.agreement.specs.Agreement.{words_of}
use Rattle.agreement.proofs.Laws.{name_11, name_12, name_13, name_other}
use Rattle.agreement.proofs.is_element.Goals as goal

pub returns-in-11-default : goal.returns-in-11-default
returns-in-11-default c = rw (name_11 (words_of c.args.kind) c.args.code c.in-11-default.is-0) c.same.ensures

pub returns-in-12-Reversale : goal.returns-in-12-Reversale
returns-in-12-Reversale c = rw (c.in-12-Reversale.is-1, name_12 reversale_words c.args.code c.in-12-Reversale.is-0) c.same-in-12-Reversale.ensures

pub returns-in-13-Reversale : goal.returns-in-13-Reversale
returns-in-13-Reversale c = rw (c.in-13-Reversale.is-1, name_13 reversale_words c.args.code c.in-13-Reversale.is-0) c.same-in-13-Reversale.ensures

pub returns-in_default-Reversale : goal.returns-in_default-Reversale
returns-in_default-Reversale c = rw (c.in_default-Reversale.is-1, name_other reversale_words c.args.code (λ e. grind arith) (λ e. grind arith) (λ e. grind arith) (λ e. grind arith)) c.same-in_default-Reversale.ensures

pub returns-in-12-Mandato : goal.returns-in-12-Mandato
returns-in-12-Mandato c = rw (c.in-12-Mandato.is-1, name_12 mandato_words c.args.code c.in-12-Mandato.is-0) c.same-in-12-Mandato.ensures

pub returns-in-13-Mandato : goal.returns-in-13-Mandato
returns-in-13-Mandato c = rw (c.in-13-Mandato.is-1, name_13 mandato_words c.args.code c.in-13-Mandato.is-0) c.same-in-13-Mandato.ensures

pub returns-in_default-Mandato : goal.returns-in_default-Mandato
returns-in_default-Mandato c = rw (c.in_default-Mandato.is-1, name_other mandato_words c.args.code (λ e. grind arith) (λ e. grind arith) (λ e. grind arith) (λ e. grind arith)) c.same-in_default-Mandato.ensures

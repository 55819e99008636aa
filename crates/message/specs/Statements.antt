-- Document 02, Req 01, said of messages: what is proved in proofs/Theorem.antt and proofs/From.antt.
use Rattle.std.specs.Prelude.{◌≡◌, List, cond, ℕ, Some}
use Rattle.codes.specs.declared.Esito.TheVariants.{Accepted, Refused}
use Rattle.codes.specs.Codes.{esito_operazione}
use Rattle.editions.specs.declared.Edition.{Edition}
use Rattle.tree.specs.Tree.{Tree, held_of, kids_in}
use Rattle.tree.specs.Orders.{text_named, Words}
use Rattle.message.specs.Message.{is_accepted}
use Rattle.message.specs.Read.{entry_in, MessageReading, MessageOf}

-- any bytes have exactly one reading
pub record OneReading (e : Edition) (s : List ℕ) : Type 0 where
  pub reading : MessageReading
  pub said : MessageOf e s reading
  pub alone : (r : MessageReading) → MessageOf e s r → r ≡ reading

-- the word of an entry that is read says its operation, and that it was accepted exactly where its code is 0
pub record WordSaid (w : Words) (t : Tree) : Type 0 where
  pub word : esito_operazione (text_named "esito_operazione" (kids_in (held_of t)))
      ≡ cond (is_accepted (entry_in w (kids_in (held_of t))).code) (Some (Accepted (entry_in w (kids_in (held_of t))).operation)) (Some (Refused (entry_in w (kids_in (held_of t))).operation))

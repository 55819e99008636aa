-- Reading a message (document 02, Req 01): its answer, and every byte of the values that it leaves.
use Rattle.std.specs.Prelude.{◌≡◌, List, ℕ, ◌≤◌, ◌<◌, length, Some, None}
use Rattle.words.specs.Numbers.{put}
use Rattle.editions.specs.declared.Edition.{Edition}
use Rattle.editions.specs.Editions.{edition_of}
use Rattle.flow.specs.Flow.{id_allowed}
use Rattle.tree.specs.Tree.{Tree, held_of, kids_in, ReadsAs}
use Rattle.message.specs.Message.{Message, entry_count}
use Rattle.message.specs.Read.{read, refused, reading_on, max_message, MessageOf}
use Rattle.message_read.specs.declared.Reply.{Reply}
use Rattle.message_read.specs.Values.{values_in, values_size}

-- the message m is read from the tree t of the bytes s
pub record ReadFrom (e : Edition) (s : List ℕ) (t : Tree) (m : Message) : Type 0 where
  pub short : length s ≤ max_message
  pub derived : ReadsAs (id_allowed e) s t
  pub reading : reading_on t ≡ read m

-- in an edition: "a message that can't be read, or is above 65,536 bytes, answers as 2 to 5 do"; 40 where the values have no room
pub data ReadIn (e : Edition) (s values : List ℕ) : Reply → List ℕ → Type 0 where
  refuses : {code place cause : ℕ} → MessageOf e s (refused code place cause) → ReadIn e s values (record { code = code; place = place; cause = cause; entries = 0 }) values
  no_room : {t : Tree} {m : Message} → ReadFrom e s t m → length values < values_size m → ReadIn e s values (record { code = 40; place = 0; cause = 0; entries = 0 }) values
  reads : {t : Tree} {m : Message} → ReadFrom e s t m → values_size m ≤ length values
      → ReadIn e s values (record { code = 0; place = 0; cause = 0; entries = entry_count m }) (put values 0 (values_in (kids_in (held_of t))))

-- THE PROMISE, of the edition's number ed (Req 05: "Refusals: 23, no such edition, after 1 and before 2")
pub data ReadPromise (ed : ℕ) (s values : List ℕ) : Reply → List ℕ → Type 0 where
  no_edition : edition_of ed ≡ None → ReadPromise ed s values (record { code = 23; place = 0; cause = 0; entries = 0 }) values
  by_edition_lem : {e : Edition} {r : Reply} {left : List ℕ} → edition_of ed ≡ Some e → ReadIn e s values r left → ReadPromise ed s values r left

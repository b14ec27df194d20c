-- How a call that writes ends. Here `Sink W` is what the trait says of writers of a type W: the bytes that they hold,
-- and the counts.
use Rattle.std.specs.Prelude.{◌≡◌, ℕ, List, Option, Result, IfOk, IsErrOf}
use Rattle.std.specs.Io.KnownBytes.{Appends}
use Rattle.pb_records.specs.Loading.{AppendsFront, IsFlushed, Rises, WriteCounts}
use Rattle.pb_records.specs.declared.loading.Sink.{Ghosts as Sink}
use Rattle.pb_reply.specs.Replies.{Answer, Reply, TellsReply}
use Rattle.pb_reply.specs.declared.answer.Format.{Format}
use Rattle.pb_reply.specs.declared.status.Fault.{Fault}
use Rattle.pb_reply.specs.declared.status.Fault.TheVariants as fault
use Rattle.pb_reply.specs.declared.status.Status.{Status}

-- a writer: what it holds, where it tells it, and its counts
pub record Writer : Type 0 where
  pub holds : Option (List ℕ)
  pub counts : WriteCounts

-- one of these answers was written, whole and with nothing else, and has this status; nothing failed, and the writer
-- was flushed after the last write
pub record IsWritten {S : Type 0} (is_answer : Answer S → Type 0) (status : S) (old new : Writer) : Type 0 where
  pub answer : Answer S
  pub of_inputs : is_answer answer
  pub text : Appends old.holds new.holds answer.text
  pub ends : status ≡ answer.status
  pub flushed : IsFlushed old.counts new.counts
  pub calm : new.counts.failures ≡ old.counts.failures

-- a front of one of these answers was written, with nothing else, and the writer failed
pub record IsCutShort {S : Type 0} (is_answer : Answer S → Type 0) (old new : Writer) : Type 0 where
  pub answer : Answer S
  pub of_inputs : is_answer answer
  pub front : AppendsFront old.holds new.holds answer.text
  pub failed : Rises old.counts.failures new.counts.failures

abbrev pub writer : {W : Type 0} → Sink W → W → Writer
writer sink w = record { holds = sink.holds w; counts = sink.counts w }

-- How a call ends that writes one of these answers: it is written, or it is cut short, or it is out of memory and the
-- writer is as it was.
pub record Writes {W S : Type 0} (sink : Sink W) (is_answer : Answer S → Type 0) (result : Result S Fault)
    (old new : W) : Type 0 where
  pub written : IfOk result (λ status. IsWritten is_answer status (writer sink old) (writer sink new))
  pub cut_short : IsErrOf result fault.Write → IsCutShort is_answer (writer sink old) (writer sink new)
  pub untouched : IsErrOf result fault.Memory → new ≡ old

-- the same where the answer is the text of one of these replies in a format
abbrev pub WritesReply : {W : Type 0} → Format → Sink W → (Reply → Type 0) → Result Status Fault → W → W → Type 0
WritesReply format sink is_reply result old new = Writes sink (TellsReply format is_reply) result old new

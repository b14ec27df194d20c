-- Inputs in their turn: what they deliver once it comes, and that they are left alone where it doesn't. Here `Source R`
-- is what the trait says of readers of a type R: the bytes that are left, and the counts.
use Rattle.std.specs.Prelude.{◌≡◌, Option, Some, None}
use Rattle.pb_records.specs.Loading.{Delivered, Delivery}
use Rattle.pb_records.specs.declared.loading.Source.{Ghosts as Source}
use Rattle.pb_reply.specs.Inputs.{most_bytes}
use Rattle.pb_reply.specs.Inside.Loaded.{lent}
use Rattle.pb_reply.specs.declared.loaded.File.{File}

-- What comes of an input: `Some d` where its turn came and it delivered d, and `None` where its turn didn't come.
abbrev pub Turn : Type 1
Turn = Option Delivery → Type 0

-- The same of a file that is given or not.
abbrev pub FileTurn : Type 1
FileTurn = Option (Option Delivery) → Type 0

-- an input before and after, by what says that it delivered something; where its turn didn't come, it is as it was
abbrev pub turn : {I : Type 0} → (I → I → Delivery → Type 0) → I → I → Turn
turn delivers old new (Some d) = delivers old new d
turn delivers old new None = new ≡ old

abbrev pub DeliversFile : {I : Type 0} → (I → I → Delivery → Type 0) → Option I → Option I → Option Delivery → Type 0
DeliversFile delivers None None None = Unit {0}
DeliversFile delivers (Some old) (Some new) (Some d) = delivers old new d
DeliversFile delivers _ _ _ = ⊥

abbrev pub file_turn : {I : Type 0} → (I → I → Delivery → Type 0) → Option I → Option I → FileTurn
file_turn delivers old new (Some d) = DeliversFile delivers old new d
file_turn delivers old new None = new ≡ old

-- A reader delivers all bytes that were left; or it failed, or had more than are allowed.
abbrev pub reads : {R : Type 0} → Source R → R → R → Delivery → Type 0
reads source old new d = Delivered (source.left old) (source.counts old) (source.counts new) most_bytes d

-- A file in memory delivers what it is.
abbrev pub lends : File → File → Delivery → Type 0
lends old new d = d ≡ lent old

-- what comes of an input of which just this is delivered, whenever its turn comes
abbrev pub gives : Delivery → Turn
gives delivery (Some d) = d ≡ delivery
gives delivery None = Unit {0}

abbrev pub gives_file : Option Delivery → FileTurn
gives_file delivery (Some d) = d ≡ delivery
gives_file delivery None = Unit {0}

-- How a run of the program ends: its exit status, and what is written on standard output then.
use Rattle.std.specs.Prelude.{◌≡◌, ◌⊎◌, ⊤, ℕ}
use Rattle.pb_audit.specs.declared.total.FolderStatus.TheVariants.{AllYes, SomeNo, SomeRefused}
use Rattle.pb_reply.specs.declared.status.Status.TheVariants.{Yes, No, Refused}
use Rattle.pb_command.specs.declared.task.UsageFault.{UsageFault}
use Rattle.pb_command.specs.declared.task.UsageFault.TheVariants as usage
use Rattle.pb_reply.specs.declared.status.Fault.TheVariants as fault
use Rattle.pb_run.specs.declared.end.End.{End}
use Rattle.pb_run.specs.declared.end.End.TheVariants.{Answered, Reported, Help, Usage, NotText, Faulted}

-- A run that ends so has this exit status: 0 after a yes, 1 after a no, 2 where an input was refused, 3 where the words
-- were not understood, and 4 where the answer was not written whole. After help it is 0 or 4; which one isn't said here,
-- since an ending doesn't tell whether the help was written.
abbrev pub HasStatus : End → ℕ → Type 0
HasStatus (Answered Yes) status = status ≡ 0
HasStatus (Answered (No u)) status = status ≡ 1
HasStatus (Answered (Refused r)) status = status ≡ 2
HasStatus (Reported AllYes) status = status ≡ 0
HasStatus (Reported SomeNo) status = status ≡ 1
HasStatus (Reported SomeRefused) status = status ≡ 2
HasStatus (Help _) status = (status ≡ 0) ⊎ (status ≡ 4)
HasStatus (Usage _) status = status ≡ 3
HasStatus NotText status = status ≡ 3
HasStatus (Faulted _) status = status ≡ 4

-- Nothing is written on standard output at the end, unless help was asked for, of which it isn't said here what is
-- written. Here O is the type of that output.
abbrev pub WritesNothingUnlessHelp : {O : Type 0} → End → O → O → Type 0
WritesNothingUnlessHelp (Answered _) old new = new ≡ old
WritesNothingUnlessHelp (Reported _) old new = new ≡ old
WritesNothingUnlessHelp (Help _) old new = ⊤
WritesNothingUnlessHelp (Usage _) old new = new ≡ old
WritesNothingUnlessHelp NotText old new = new ≡ old
WritesNothingUnlessHelp (Faulted _) old new = new ≡ old

-- how a run ends whose words give no task
abbrev pub end_on : UsageFault → End
end_on (usage.Help text) = Help text
end_on (usage.Usage text) = Usage text
end_on usage.Memory = Faulted fault.Memory

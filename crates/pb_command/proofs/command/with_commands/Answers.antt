use Rattle.pb_command.proofs.Clap.Building.{adds_command, gone_through, takes_next}
use Rattle.pb_command.specs.Descriptions.{with_described}
use Rattle.pb_command.proofs.command.with_commands.Goals as goal

pub loop-description-init : goal.loop-description-init
loop-description-init c app is = is

pub loop-description-preserved : goal.loop-description-preserved
loop-description-preserved c app is = takes_next with_described app _ _ _ c.loop-description-test.true _
    (adds_command _ _ _ _ _ (c.loop-description.invariant app is) c.in_ok-command_of.ensures c.in_ok-command.ensures)

pub returns : goal.returns
returns c app is = gone_through with_described app _ _ _ (c.loop-description.invariant app is) c.loop-description-test.false

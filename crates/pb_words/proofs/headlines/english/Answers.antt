use Rattle.std.proofs.Common.{rules}
use Rattle.std.specs.Char.{encode_utf8}
use Rattle.pb_words.proofs.headlines.english.Goals as goal

pub returns-in-NotSupported : goal.returns-in-NotSupported
unfolding encode_utf8
returns-in-NotSupported c = search rules

pub returns-in-NoViolation : goal.returns-in-NoViolation
unfolding encode_utf8
returns-in-NoViolation c = search rules

pub returns-in-NotRefuted : goal.returns-in-NotRefuted
unfolding encode_utf8
returns-in-NotRefuted c = search rules

pub returns-in-NotRefutedStable : goal.returns-in-NotRefutedStable
unfolding encode_utf8
returns-in-NotRefutedStable c = search rules

use Rattle.std.proofs.Common.{rules}
use Rattle.std.specs.Char.{encode_utf8}
use Rattle.pb_words.proofs.headlines.polish.Goals as goal

pub returns-in-Supported : goal.returns-in-Supported
unfolding encode_utf8
returns-in-Supported c = search rules

pub returns-in-SupportedStable : goal.returns-in-SupportedStable
unfolding encode_utf8
returns-in-SupportedStable c = search rules

pub returns-in-NotSupported : goal.returns-in-NotSupported
unfolding encode_utf8
returns-in-NotSupported c = search rules

pub returns-in-Violation : goal.returns-in-Violation
unfolding encode_utf8
returns-in-Violation c = search rules

pub returns-in-Unpriceable : goal.returns-in-Unpriceable
unfolding encode_utf8
returns-in-Unpriceable c = search rules

pub returns-in-UnpriceableUnderCover : goal.returns-in-UnpriceableUnderCover
unfolding encode_utf8
returns-in-UnpriceableUnderCover c = search rules

pub returns-in-NotRefuted : goal.returns-in-NotRefuted
unfolding encode_utf8
returns-in-NotRefuted c = search rules

pub returns-in-UnpriceableStable : goal.returns-in-UnpriceableStable
unfolding encode_utf8
returns-in-UnpriceableStable c = search rules

pub returns-in-UnpriceableStableUnderCover : goal.returns-in-UnpriceableStableUnderCover
unfolding encode_utf8
returns-in-UnpriceableStableUnderCover c = search rules

pub returns-in-NotRefutedStable : goal.returns-in-NotRefutedStable
unfolding encode_utf8
returns-in-NotRefutedStable c = search rules

pub returns-in-NoGroupFallsShort : goal.returns-in-NoGroupFallsShort
unfolding encode_utf8
returns-in-NoGroupFallsShort c = search rules

pub returns-in-GroupFallsShort : goal.returns-in-GroupFallsShort
unfolding encode_utf8
returns-in-GroupFallsShort c = search rules

use Rattle.std.proofs.Common.{◌≡◌, ◌++◌, map, string_bytes, take}
use Rattle.pb_reply.specs.Replies.{text_of}
use Rattle.pb_reply.proofs.answer.push_lines.Given as goal

abbrev pub invariant-loop-line : goal.invariant-loop-line
invariant-loop-line l = string_bytes l.text ≡ string_bytes l.initial.text
    ++ text_of (map string_bytes (take l.line-index l.lines))

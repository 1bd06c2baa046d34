-- Replies.
use Rattle.std.specs.Prelude.{ℕ}
use Rattle.replay.specs.declared.ask.Reply.{Reply}
use Rattle.replay.specs.declared.ask.Reply.TheVariants.{Number, Hit, Walked, Verdict, Kept, Refused, Damaged, Malformed}

-- how many numbers of a builder's space a reply speaks of
abbrev pub kept : Reply → ℕ
kept (Kept n) = n
kept (Number x) = 0
kept (Hit hit) = 0
kept (Walked walked) = 0
kept (Verdict verdict) = 0
kept (Refused refusal) = 0
kept Damaged = 0
kept Malformed = 0

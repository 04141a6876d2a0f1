use Rattle.std.proofs.Common.{◌≡◌, ℕ, ◌+◌, ◌*◌, ◌<◌, cond, nat_lt, length, get_or}
use Rattle.network.specs.Limits.{max_fanins}
use Rattle.network.specs.Rows.{no_signal}
use Rattle.job.specs.Checks.{byte_at, word_at}
use Rattle.job.proofs.fields.Record.load_fanins.Given as goal

abbrev pub invariant-loop-i : goal.invariant-loop-i
invariant-loop-i l = record {
  loaded : (k : ℕ) → k < l.i → (get_or l.fanin-items k no_signal).0 ≡ cond (nat_lt k (byte_at l.self.bytes.now l.self.at)) (word_at l.self.bytes.now (l.self.at + 1 + 2 * k)) 0;
  places : length l.fanin-items ≡ max_fanins;
}

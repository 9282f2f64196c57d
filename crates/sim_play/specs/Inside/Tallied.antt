-- How a tally counts.
use Rattle.std.specs.Prelude.{ℕ, ◌+◌, Bool, if◌then◌else◌}
use Rattle.run_records.specs.declared.record.Noted.{Noted}
use Rattle.sim_play.specs.Show.{capped}

-- a count after an entry: one more, where such entries are counted
abbrev pub count_after : (Noted → Bool) → ℕ → Noted → ℕ
count_after is_counted count noted = if is_counted noted then capped (count + 1) else count

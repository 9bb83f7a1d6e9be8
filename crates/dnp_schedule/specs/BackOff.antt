-- Definition: how long a link rests that was lost so often, in milliseconds.
use Rattle.std.specs.Prelude.{ℕ, ◌+◌, ◌*◌, ◌/◌, ◌==◌, if◌then◌else◌}

-- 1 s, and twice as long after each further loss, a minute at most
abbrev pub doubled : ℕ → ℕ
doubled losses =
    if losses == 0 then 1000
    else (if losses == 1 then 2000
    else (if losses == 2 then 4000
    else (if losses == 3 then 8000
    else (if losses == 4 then 16000
    else (if losses == 5 then 32000 else 60000)))))

-- each place adds a 64th
abbrev pub rest : ℕ → ℕ → ℕ
rest losses place = doubled losses + doubled losses / 64 * place

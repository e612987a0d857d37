-- What a counter means, and how counting, a new load and a put move it.
use Rattle.std.specs.Prelude.{Bool, true, false, cond, ◌&&◌, ℤ, pos, negsuc, ◌+ℤ◌, ◌-ℤ◌, ◌≤ℤ◌, ◌<ℤ◌, int_le, int_lt, Some, None, Option}
use Rattle.counter.specs.declared.meaning.Landing.{Landing}
use Rattle.counter.specs.declared.meaning.Landing.TheVariants.{Fixed, OnLoad}
use Rattle.counter.specs.declared.meaning.Meaning.{Meaning}
use Rattle.counter.specs.declared.meaning.Crossing.{Crossing}
use Rattle.counter.specs.declared.meaning.Crossing.TheVariants.{Overflow, Underflow}

-- the least and the greatest reading of any counter
abbrev pub LOW : ℤ
LOW = negsuc 2147483647

abbrev pub HIGH : ℤ
HIGH = pos 2147483647

-- v is at least a and at most b
abbrev pub Between : ℤ → ℤ → ℤ → Type 0
Between a v b = (a ≤ℤ v) × (v ≤ℤ b)

-- the reading on which a landing is
abbrev pub lands_on : Landing → ℤ
lands_on (Fixed reading) = reading
lands_on (OnLoad reading) = reading

-- whether a new load moves it
abbrev pub follows_load : Landing → Bool
follows_load (Fixed reading) = false
follows_load (OnLoad reading) = true

-- what every counter keeps: its limits are in order, and all its values lie within them
pub record Sound (m : Meaning) : Type 0 where
  pub least : LOW ≤ℤ m.low
  pub order : m.low <ℤ m.high
  pub most : m.high ≤ℤ HIGH
  pub reading_inside : Between m.low m.reading m.high
  pub load_inside : Between m.low m.load m.high
  pub overflow_inside : Between m.low (lands_on m.overflow) m.high
  pub underflow_inside : Between m.low (lands_on m.underflow) m.high

-- the counter at another reading
abbrev pub at_reading : Meaning → ℤ → Meaning
at_reading m r = record { reading = r; low = m.low; high = m.high; load = m.load; overflow = m.overflow; underflow = m.underflow; stops = m.stops }

-- a reading after a pulse up: 1 more below high, and the landing at high
abbrev pub risen : ℤ → ℤ → ℤ → ℤ
risen reading high landing = cond (int_lt reading high) (reading +ℤ pos 1) landing

-- and what it did at the limit
abbrev pub rise_crossing : ℤ → ℤ → Option Crossing
rise_crossing reading high = cond (int_lt reading high) None (Some Overflow)

-- a reading after a pulse down: 1 less above low, and the landing at low
abbrev pub fallen : ℤ → ℤ → ℤ → ℤ
fallen reading low landing = cond (int_lt low reading) (reading -ℤ pos 1) landing

-- and what it did at the limit
abbrev pub fall_crossing : ℤ → ℤ → Option Crossing
fall_crossing reading low = cond (int_lt low reading) None (Some Underflow)

-- a pulse moves the reading and nothing else
abbrev pub up : Meaning → Meaning
up m = at_reading m (risen m.reading m.high (lands_on m.overflow))

abbrev pub up_crossing : Meaning → Option Crossing
up_crossing m = rise_crossing m.reading m.high

abbrev pub down : Meaning → Meaning
down m = at_reading m (fallen m.reading m.low (lands_on m.underflow))

abbrev pub down_crossing : Meaning → Option Crossing
down_crossing m = fall_crossing m.reading m.low

-- put makes the reading equal to the load
abbrev pub put : Meaning → Meaning
put m = at_reading m m.load

-- a landing after a new load
abbrev follow : Landing → ℤ → Landing
follow (Fixed reading) load = Fixed reading
follow (OnLoad reading) load = OnLoad load

-- the counter with another load
abbrev pub with_load : Meaning → ℤ → Meaning
with_load m load = record { reading = m.reading; low = m.low; high = m.high; load = load; overflow = follow m.overflow load; underflow = follow m.underflow load; stops = m.stops }

-- a new load is accepted exactly within the limits
abbrev pub accepts : Meaning → ℤ → Bool
accepts m load = int_le m.low load && int_le load m.high

-- the counter after a new load was offered: refused, it alters nothing
abbrev pub offered : Meaning → ℤ → Meaning
offered m load = cond (accepts m load) (with_load m load) m

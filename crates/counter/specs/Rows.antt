-- The counters that settings pick, a line for each mode and main count direction.
use Rattle.std.specs.Prelude.{◌≡◌, Bool, true, false, ◌&&◌, ℤ, pos, ◌-ℤ◌, Some, None, Option, int_le}
use Rattle.counter.specs.declared.meaning.Meaning.{Meaning}
use Rattle.counter.specs.declared.meaning.Landing.TheVariants.{Fixed, OnLoad}
use Rattle.counter.specs.declared.mode.Mode.{Mode}
use Rattle.counter.specs.declared.mode.Mode.TheVariants.{Endless, Once, Periodic}
use Rattle.counter.specs.declared.mode.MainDirection.{MainDirection}
use Rattle.counter.specs.declared.mode.MainDirection.TheVariants.{Neither, Up, Down}
use Rattle.counter.specs.Counting.{LOW, HIGH, accepts}

-- between LOW and HIGH, from one end to the other
abbrev pub full_range : Bool → ℤ → ℤ → Meaning
full_range stops reading load = record { reading = reading; low = LOW; high = HIGH; load = load; overflow = Fixed LOW; underflow = Fixed HIGH; stops = stops }

-- between LOW and HIGH, from either end to the load
abbrev pub periodic : ℤ → ℤ → Meaning
periodic reading load = record { reading = reading; low = LOW; high = HIGH; load = load; overflow = OnLoad load; underflow = OnLoad load; stops = false }

-- up to one below the end value, and from there to the load
abbrev pub upward : Bool → ℤ → ℤ → ℤ → Meaning
upward stops end reading load = record { reading = reading; low = LOW; high = end -ℤ pos 1; load = load; overflow = OnLoad load; underflow = Fixed (end -ℤ pos 1); stops = stops }

-- from the end value down to 1, and from there to the load
abbrev pub downward : Bool → ℤ → ℤ → ℤ → Meaning
downward stops end reading load = record { reading = reading; low = pos 1; high = end; load = load; overflow = Fixed (pos 1); underflow = OnLoad load; stops = stops }

-- an end value is 2 to HIGH
abbrev pub end_fits : ℤ → Bool
end_fits end = int_le (pos 2) end && int_le end HIGH

-- the end value and the load fit an upward or a downward counter
abbrev pub upward_fits : ℤ → ℤ → Bool
upward_fits end load = end_fits end && accepts (upward false end load load) load

abbrev pub downward_fits : ℤ → ℤ → Bool
downward_fits end load = end_fits end && accepts (downward false end load load) load

-- only a once counter stops
abbrev pub stops : Mode → Bool
stops Endless = false
stops Once = true
stops Periodic = false

-- the line for a mode and a main count direction, at an end value and a load; a new counter reads its load
abbrev pub row : Mode → MainDirection → ℤ → ℤ → Meaning
row Endless direction end load = full_range false load load
row Once Neither end load = full_range true load load
row Once Up end load = upward true end load load
row Once Down end load = downward true end load load
row Periodic Neither end load = periodic load load
row Periodic Up end load = upward false end load load
row Periodic Down end load = downward false end load load

-- every mode and direction has a line, but for an endless counter with a main count direction
abbrev pub has_row : Mode → MainDirection → Bool
has_row Endless Neither = true
has_row Endless Up = false
has_row Endless Down = false
has_row Once direction = true
has_row Periodic direction = true

-- there is such a line, and the end value and the load fit it
abbrev pub row_fits : Mode → MainDirection → ℤ → ℤ → Bool
row_fits mode direction end load = has_row mode direction && (end_fits end && accepts (row mode direction end load) load)

-- a counter is made exactly where the test holds, and then it means m
abbrev pub Makes : {C : Type 0} → (C → Meaning) → Option C → Bool → Meaning → Type 0
Makes means None fits m = fits ≡ false
Makes means (Some c) fits m = (fits ≡ true) × (means c ≡ m)

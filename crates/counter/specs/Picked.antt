-- What the counter that settings pick means.
use Rattle.counter.specs.declared.meaning.Meaning.{Meaning}
use Rattle.counter.specs.declared.picked.PickedCounter.{PickedCounter}
use Rattle.counter.specs.declared.picked.PickedCounter.TheVariants.{FullRange, Periodic, Upward, Downward}
use Rattle.counter.specs.Counting.{Sound}
use Rattle.counter.specs.Rows.{full_range, periodic, upward, downward}

-- each case means what its kind means
abbrev pub picked_means : PickedCounter → Meaning
picked_means (FullRange c) = full_range c.stops c.reading c.load
picked_means (Periodic c) = periodic c.reading c.load
picked_means (Upward c) = upward c.stops c.end c.reading c.load
picked_means (Downward c) = downward c.stops c.end c.reading c.load

-- and is sound as its kind is
pub picked_sound : (c : PickedCounter) → Sound (picked_means c)
picked_sound (FullRange c) = c.sound
picked_sound (Periodic c) = c.sound
picked_sound (Upward c) = c.sound
picked_sound (Downward c) = c.sound

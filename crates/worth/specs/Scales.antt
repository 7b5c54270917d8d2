-- Scales of worth, and the yes-no scale.
use Rattle.std.specs.Prelude.{◌≡◌, Bool, true, false, ◌&&◌, ◌||◌}

-- A scale's worths of a kept and of a broken line, and its two joinings.
pub record Joins (W : Type 0) : Type 0 where
  pub won : W
  pub lost : W
  pub either : W → W → W
  pub both : W → W → W

-- The laws of a scale, for all its worths.
pub record Lawful {W : Type 0} (j : Joins W) : Type 0 where
  pub lost-either : (a : W) → j.either j.lost a ≡ a
  pub either-lost : (a : W) → j.either a j.lost ≡ a
  pub lost-both : (a : W) → j.both j.lost a ≡ j.lost
  pub both-lost : (a : W) → j.both a j.lost ≡ j.lost

-- The worth of two branches: both at a report (true), either at a reply.
abbrev pub joined : {W : Type 0} → Joins W → Bool → W → W → W
joined j true a b = j.both a b
joined j false a b = j.either a b

-- The yes-no scale.
abbrev pub yes_no : Joins Bool
yes_no = record { won = true; lost = false; either = ◌||◌; both = ◌&&◌ }

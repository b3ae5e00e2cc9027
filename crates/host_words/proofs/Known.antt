-- What a test whether a value is known shows, from what the test ensures.
use mathlib.Core.Path.{◌≡◌, sym, ◌∙◌}
use mathlib.Core.Bool.{Bool, true, false}

pub is_known : {r x : Bool} → r ≡ x → r ≡ true → x ≡ true
is_known e h = sym e ∙ h

pub is-unknown : {r x : Bool} → r ≡ x → r ≡ false → x ≡ false
is-unknown e h = sym e ∙ h

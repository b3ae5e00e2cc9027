-- Laws of digits: how many a number takes, and a text of digits cut in two.
use Prim.Native.Nat.{ℕ, zero, suc, ◌+◌, ◌-◌, ◌*◌, ◌/◌, ◌%◌, ◌^◌, ◌≤◌, ◌<◌}
use mathlib.Core.Path.{◌≡◌, refl, sym, ap, subst, ◌∙◌}
use mathlib.Core.Bool.{Bool, true, false, cond}
use mathlib.Core.List.{List, [], ◌∷◌, ◌++◌, append_assoc, append-nil}
use native.Mathlib.Nat.{pow-suc, pow-zero, pow-succ', div-div-eq-div-mul, div-one, mul-le-mul_right, div-le_self, lt_of_le_of_lt, mul_assoc, mul-add-div_right, mul-add-mod_self_right, div-eq_of_lt}
use native.Mathlib.Omega.{arith}
use borrow.Author.Tests.{lt-ltb, le-ltb}
use lib.Dec.{ltb}
use lib.ListN.{length, set, length-append}
use lib.Seq.{sets}
use Rattle.text_buffer.specs.Digits.{digits, decimal_letter, width, decimal_of}
use Rattle.text_buffer.specs.Writing.{Put}
use Rattle.text_buffer.proofs.Writing.{sets_first}

pub digits_length : (letter : ℕ → ℕ) (base k n : ℕ) → length (digits letter base k n) ≡ k
unfolding digits
digits_length letter base zero n = refl
digits_length letter base (suc k) n =
    length-append (digits letter base k (n / base)) (letter (n % base) ∷ []) ∙ rw (digits_length letter base k (n / base)) (omega arith)

-- a turn of a loop that puts digits, the last one first, and its end
pub digits_turn : (letter : ℕ → ℕ) (base : ℕ) (l m : List ℕ) (at i rest : ℕ) → 0 < i → m ≡ set l (at + (i - 1)) (letter (rest % base))
    → sets m at (digits letter base (i - 1) (rest / base)) ≡ sets l at (digits letter base i rest)
unfolding digits
digits_turn letter base l m at zero rest h e = absurd (omega arith)
digits_turn letter base l m at (suc i) rest h e =
    let one : suc i - 1 ≡ i = omega arith in
    let long : length (digits letter base i (rest / base)) ≡ i = digits_length letter base i (rest / base) in
    rw (e, one)
    (ap (λ (k : ℕ). sets (set l (at + k) (letter (rest % base))) at (digits letter base i (rest / base))) (sym long)
    ∙ sets_first l at (digits letter base i (rest / base)) (letter (rest % base)))

pub digits_end : (letter : ℕ → ℕ) (base : ℕ) (l : List ℕ) (at i rest : ℕ) → i ≤ 0 → sets l at (digits letter base i rest) ≡ l
unfolding digits
digits_end letter base l at zero rest h = refl
digits_end letter base l at (suc i) rest h = absurd (omega arith)

-- digits put are a text put
pub digits_put : (letter : ℕ → ℕ) (base : ℕ) (l m : List ℕ) (at k n : ℕ) → m ≡ sets l at (digits letter base k n) → Put l at (digits letter base k n) m (at + k)
digits_put letter base l m at k n e = record { bytes = e; place = rw (digits_length letter base k n) }

pub decimal_put : (l m : List ℕ) (at k n : ℕ) → k ≡ width 40 n → m ≡ sets l at (digits decimal_letter 10 k n) → Put l at (decimal_of n) m (at + k)
unfolding decimal_of
decimal_put l m at k n w e = subst (λ (j : ℕ). Put l at (digits decimal_letter 10 j n) m (at + k)) w (digits_put decimal_letter 10 l m at k n e)

-- the first digits and the last k
pub digits_split : (letter : ℕ → ℕ) (base j k n : ℕ) → digits letter base (j + k) n ≡ digits letter base j (n / base ^ k) ++ digits letter base k n
unfolding digits
digits_split letter base j zero n =
    let none : j + 0 ≡ j = omega arith in
    let whole : n / base ^ 0 ≡ n = rw (pow-zero base) (div-one n) in
    rw (none, whole) (sym (append-nil (digits letter base j n)))
digits_split letter base j (suc k) n =
    let e : j + suc k ≡ suc (j + k) = omega arith in
    let part : n / base / base ^ k ≡ n / base ^ suc k = div-div-eq-div-mul n base (base ^ k) ∙ ap (λ (x : ℕ). n / x) (sym (pow-succ' base k)) in
    rw e
    (ap (λ (x : List ℕ). x ++ (letter (n % base) ∷ [])) (digits_split letter base j k (n / base))
    ∙ append_assoc (digits letter base j (n / base / base ^ k)) (digits letter base k (n / base)) (letter (n % base) ∷ [])
    ∙ ap (λ (x : ℕ). digits letter base j x ++ (digits letter base k (n / base) ++ (letter (n % base) ∷ []))) part)

-- what lies above the last k digits does not show in them
pub digits_above : (letter : ℕ → ℕ) (base k x n : ℕ) → 0 < base → digits letter base k (x * base ^ k + n) ≡ digits letter base k n
unfolding digits
digits_above letter base zero x n pos = refl
digits_above letter base (suc k) x n pos =
    let e : x * base ^ suc k ≡ x * base ^ k * base = ap (λ (p : ℕ). x * p) (pow-suc base k) ∙ sym (mul_assoc x (base ^ k) base) in
    let quotient : (x * base ^ suc k + n) / base ≡ x * base ^ k + n / base = rw e (mul-add-div_right pos (x * base ^ k) n) in
    let rest : (x * base ^ suc k + n) % base ≡ n % base = rw e (mul-add-mod_self_right (x * base ^ k) base n) in
    rw (quotient, rest, digits_above letter base k x (n / base) pos)

pow_positive : (j : ℕ) → 0 < 10 ^ j
pow_positive zero = omega (arith, pow-zero 10)
pow_positive (suc j) = omega (arith, pow-suc 10 j, pow_positive j)

-- a number of one digit, and a number of more
pub width_one : (f n : ℕ) → n < 10 → width f n ≡ 1
unfolding width
width_one zero n h = refl
width_one (suc f) n h = rw (lt-ltb n 10 h)

pub width_turn : (k r w : ℕ) → k < 20 → 10 ≤ r → k + width (41 - k) r ≡ w → k + 1 + width (41 - (k + 1)) (r / 10) ≡ w
unfolding width
width_turn k r w h ge e =
    let f : 41 - k ≡ suc (40 - k) = omega arith in
    let one : 41 - (k + 1) ≡ 40 - k = omega arith in
    let d : width (41 - k) r ≡ suc (width (40 - k) (r / 10)) = rw (f, le-ltb r 10 ge) in
    rw one (omega (arith, d, e))

-- what is left of a number, above the digits counted
pub power_turn : (k r n : ℕ) → 1 ≤ k → r * 10 ^ (k - 1) ≤ n → r / 10 * 10 ^ (k + 1 - 1) ≤ n
power_turn k r n h le =
    let e : k + 1 - 1 ≡ suc (k - 1) = omega arith in
    let tens : r / 10 * 10 ≤ r = omega arith in
    rw (e, pow-suc 10 (k - 1)) (omega (arith, le, mul-le-mul_right (10 ^ (k - 1)) tens))

-- of the most digits of a word the first is left
pub power_last : (k r n : ℕ) → k ≡ 20 → r * 10 ^ (k - 1) ≤ n → n < 18446744073709551616 → r < 10
power_last k r n e le fits = omega (arith, rw e at le)

width_test : (f n : ℕ) (b : Bool) → ltb n 10 ≡ b → (width f (n / 10) ≡ width (suc f) (n / 10)) → width (suc f) n ≡ width (suc (suc f)) n
unfolding width
width_test f n true e h = rw e
width_test f n false e h = rw e (ap suc h)

-- a greater bound on the digits alters nothing
width_enough : (f n : ℕ) → n < 10 ^ suc f → width f n ≡ width (suc f) n
unfolding width
width_enough zero n h =
    let b : n < 10 = omega (arith, h, pow-suc 10 0, pow-zero 10) in
    rw (lt-ltb n 10 b)
width_enough (suc f) n h = width_test f n (ltb n 10) refl (width_enough f (n / 10) (omega (arith, h, pow-suc 10 (suc f))))

tenth_below : (f n : ℕ) → n < 10 ^ suc f → n / 10 < 10 ^ f
tenth_below f n h = omega (arith, h, pow-suc 10 f)

-- a number above nine: all but its last digit, and that
decimal_step : (n : ℕ) → 10 ≤ n → n < 10 ^ 41 → decimal_of n ≡ decimal_of (n / 10) ++ (decimal_letter (n % 10) ∷ [])
unfolding decimal_of width digits
decimal_step n ge h =
    let w : width 40 n ≡ suc (width 39 (n / 10)) = rw (le-ltb n 10 ge) in
    let same : width 39 (n / 10) ≡ width 40 (n / 10) = width_enough 39 (n / 10) (tenth_below 40 n h) in
    ap (λ (k : ℕ). digits decimal_letter 10 k n) w ∙ ap (λ (k : ℕ). digits decimal_letter 10 k (n / 10) ++ (decimal_letter (n % 10) ∷ [])) same

-- a number from 10^k on: the number before its last k digits, and those
pub decimal_split : (k n : ℕ) → 10 ^ k ≤ n → n < 10 ^ 41 → decimal_of n ≡ decimal_of (n / 10 ^ k) ++ digits decimal_letter 10 k n
unfolding digits
decimal_split zero n ge h =
    let whole : n / 10 ^ 0 ≡ n = rw (pow-zero 10) (div-one n) in
    rw whole (sym (append-nil (decimal_of n)))
decimal_split (suc k) n ge h =
    let part : n / 10 / 10 ^ k ≡ n / 10 ^ suc k = div-div-eq-div-mul n 10 (10 ^ k) ∙ ap (λ (x : ℕ). n / x) (sym (pow-succ' 10 k)) in
    let more : 10 ^ k ≤ n / 10 = omega (arith, ge, pow-suc 10 k) in
    decimal_step n (omega (arith, ge, pow-suc 10 k, pow_positive k)) h
    ∙ ap (λ (x : List ℕ). x ++ (decimal_letter (n % 10) ∷ [])) (decimal_split k (n / 10) more (lt_of_le_of_lt (div-le_self n 10) h))
    ∙ append_assoc (decimal_of (n / 10 / 10 ^ k)) (digits decimal_letter 10 k (n / 10)) (decimal_letter (n % 10) ∷ [])
    ∙ ap (λ (x : ℕ). decimal_of x ++ (digits decimal_letter 10 k (n / 10) ++ (decimal_letter (n % 10) ∷ []))) part

-- a number and k digits behind it
pub decimal_parts : (k q r : ℕ) → r < 10 ^ k → 10 ^ k ≤ q * 10 ^ k + r → q * 10 ^ k + r < 10 ^ 41 → decimal_of (q * 10 ^ k + r) ≡ decimal_of q ++ digits decimal_letter 10 k r
decimal_parts k q r small ge h =
    let none : r / 10 ^ k ≡ 0 = div-eq_of_lt small in
    let quotient : (q * 10 ^ k + r) / 10 ^ k ≡ q = mul-add-div_right (pow_positive k) q r ∙ omega (arith, none) in
    decimal_split k (q * 10 ^ k + r) ge h ∙ rw (quotient, digits_above decimal_letter 10 k q r (omega arith))

width_most_of : (f n : ℕ) → width f n ≤ suc f
unfolding width
width_most_of zero n = omega arith
width_most_of (suc f) n = by_test (width f (n / 10)) (ltb n 10) (width_most_of f (n / 10))
  where
    by_test : (w : ℕ) (b : Bool) → w ≤ suc f → cond b 1 (suc w) ≤ suc (suc f)
    by_test w true h = omega arith
    by_test w false h = omega arith

-- no number takes more than 41 digits
pub decimal_length : (n : ℕ) → length (decimal_of n) ≤ 41
unfolding decimal_of
decimal_length n = rw (digits_length decimal_letter 10 (width 40 n) n) (width_most_of 40 n)

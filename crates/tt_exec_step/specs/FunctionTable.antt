-- No part of the standard: the code's table of functions by number.
use Rattle.std.specs.Prelude.{◌≡◌, ℕ, zero, suc, ◌<◌, ◌≤◌, List, [], ◌∷◌, ◌++◌, length, replicate, map, All, slice_get, slice_index_or, Option, Some, None}
use Rattle.tt_exec_step.specs.MachineState.{Body}
use Rattle.tt_exec_step.specs.Numbered.{extent}

-- the body at a place, by 1 + the place; 0 means no body
abbrev pub body_of_place : List Body → ℕ → Option Body
body_of_place bodies zero = None
body_of_place bodies (suc place) = slice_get bodies place

-- the body that a number may have
abbrev pub body_if : List Body → Option ℕ → Option Body
body_if bodies None = None
body_if bodies (Some place) = body_of_place bodies place

abbrev pub body_at : ℕ → List ℕ → List Body → Option Body
body_at n places bodies = body_if bodies (slice_get places n)

-- a number before later ones, if it has a body
abbrev pub entry_before : ℕ → Option Body → List (ℕ × Body) → List (ℕ × Body)
entry_before n None entries = entries
entry_before n (Some body) entries = (n, body) ∷ entries

-- the numbers from n on with bodies, in order
abbrev pub listed_from : ℕ → List (Option Body) → List (ℕ × Body)
listed_from n [] = []
listed_from n (slot ∷ slots) = entry_before n slot (listed_from (suc n) slots)

-- the body of each number, if any
abbrev pub slots : List ℕ → List Body → List (Option Body)
slots places bodies = map (body_of_place bodies) places

abbrev pub listed : List ℕ → List Body → List (ℕ × Body)
listed places bodies = listed_from 0 (slots places bodies)

-- A place is that of a body, or 0, and two numbers share no place except 0. The counts of bodies and of functions are
-- equal.
pub record AreSlots (places : List ℕ) (bodies : List Body) : Type 0 where
  pub few : length places ≤ 65536
  pub within : All (λ place. place ≤ length bodies) places
  pub apart : (n m : ℕ) → n < m → m < length places → slice_index_or places n 0 ≡ slice_index_or places m 0
      → slice_index_or places n 0 ≡ 0
  pub many : length (listed places bodies) ≡ length bodies

-- the places of functions: none is after that of the greatest number
pub record AreFunctions (places : List ℕ) (bodies : List Body) : Type 0 where
  pub placed : AreSlots places bodies
  pub ended : length places ≡ extent (listed places bodies)

-- places with room for more numbers, without bodies
abbrev pub IsGrown : List ℕ → List ℕ → Type 0
IsGrown old new = (more : ℕ) × (new ≡ old ++ replicate more 0)

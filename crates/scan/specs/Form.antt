-- What it is to find a piece of text of a given form at a place of a text, and where a text that has none stops being like one. Cited by every scanner's
-- contract, and by the reader's answer. Definitions only. Assumes nothing.
use Rattle.std.specs.Prelude.{◌≡◌, List, ◌++◌, ℕ, ◌+◌, ◌≤◌, ◌<◌, length, drop}
use Rattle.text.specs.Words.{common}

-- a form of text: which values it can carry, and how each is written
pub record Form (A : Type 0) : Type 1 where
  pub Good : A → Type 0
  pub text : A → List ℕ

module _ {A : Type 0} (F : Form A) where
  -- at the place `at` of the text the value a is written, and `next` is the place after it
  pub record Found (text : List ℕ) (at : ℕ) (a : A) (next : ℕ) : Type 0 where
    pub good : F.Good a
    pub place : next ≡ at + length (F.text a)
    pub begins : drop at text ≡ F.text a ++ drop next text

  -- no value is written there, and `stop` is where the longest beginning that the text has in common with a written value ends:
  -- `some` value shares that much, none shares more
  pub record Stopped (text : List ℕ) (at stop : ℕ) : Type 0 where
    pub most : (a : A) → F.Good a → (at + common (drop at text) (F.text a) ≤ stop) × (common (drop at text) (F.text a) < length (F.text a))
    pub some : (a : A) × F.Good a × (at + common (drop at text) (F.text a) ≡ stop)

  -- no written value begins another one, so that a text has at most one value at a place
  abbrev pub Apart : Type 0
  Apart = (a b : A) → F.Good a → F.Good b → (t u : List ℕ) → F.text a ++ t ≡ F.text b ++ u → a ≡ b

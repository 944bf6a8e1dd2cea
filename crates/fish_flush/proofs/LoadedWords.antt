-- The words of a region that are loaded to their places, one after the other.
use Rattle.std.proofs.Common.{◌≡◌, ◌≢◌, ℕ, ◌+◌, ◌*◌, ◌%◌, ◌<◌, ◌≤◌, List, length, take, set, get_or, sym, ◌∙◌, subst, arith}
use Rattle.std.proofs.Common.{get_or-set_other, get_or-set_same}
use Rattle.std.proofs.Math.Decide.{ℕ_discrete}
use Rattle.std.proofs.lemmas.List.{get_or-take, length-take-le}
use Rattle.fish_layout.specs.Cleared.{IsKeyWord}
use Rattle.fish_layout.specs.Header.{keys_of, lines_of}
use Rattle.fish_flush.proofs.AddedRegions.{few_lines}
use Rattle.fish_rule.proofs.laws.Steps.{header_law}
use Rattle.fish_rule.specs.Table.{IsOfMoment}
use Rattle.fish_rule.specs.declared.view.Kind.TheVariants.{Mark}
use Rattle.fish_rule.specs.Logs.{Extends, HasWords}
use Rattle.fish_rule.specs.Views.{Among}
use Rattle.fish_rule.specs.declared.view.Found.{Found}
use Rattle.fish_rule.specs.declared.view.View.{View}

-- so many words of the region at a line are in a list, its header first, each known but for the first ones of key entries
pub record AreLoaded (v : View) (line header many : ℕ) (words : List ℕ) : Type 0 where
  pub head : get_or words 0 0 ≡ header
  pub read : (i : ℕ) → i < many → ¬ IsKeyWord (keys_of header) i
      → Among (record { place = line * 4 + i; value = get_or words i 0 }) v.learned.known

-- the header alone
pub loaded_head : (v : View) (line header : ℕ) (words : List ℕ) → 0 < length words
    → Among (record { place = line * 4 + 0; value = header }) v.learned.known → AreLoaded v line header 1 (set words 0 header)
loaded_head v line header words some known =
    let head : get_or (set words 0 header) 0 0 ≡ header = get_or-set_same words 0 header 0 some in
    record {
      head = head;
      read = λ i less plain.
          let first : i ≡ 0 = omega arith in
          subst (λ (z : ℕ). Among (record { place = line * 4 + z; value = get_or (set words 0 header) z 0 }) v.learned.known) (sym first)
          (subst (λ (z : ℕ). Among (record { place = line * 4 + 0; value = z }) v.learned.known) (sym head) known);
    }

-- it is known
pub loaded_known : (v : View) (line header many : ℕ) (words : List ℕ) → 0 < many → AreLoaded v line header many words
    → Among (record { place = line * 4; value = header }) v.learned.known
loaded_known v line header many words some h =
    let place : line * 4 + 0 ≡ line * 4 = omega arith in
    subst (λ (z : ℕ × ℕ). Among (record { place = z.0; value = z.1 }) v.learned.known) (λ i. (place i, h.head i))
    (h.read 0 some (λ k. (let m : 0 % 3 ≡ 1 = k.1 in absurd (omega arith))))

-- the header of a region, which is known, says how many lines it has
pub record IsHeaded (v : View) (f : Found) (header : ℕ) : Type 0 where
  pub among : Among f v.learned.found
  pub known : Among (record { place = f.line * 4; value = header }) v.learned.known
  pub lines : lines_of header ≡ f.lines
  pub few : f.lines ≤ 18625

pub loaded_header : (v u : View) (f : Found) (line header n : ℕ) (words : List ℕ) → Among f v.learned.found → f.line ≡ line
    → f.kind ≢ Mark → Extends v u → IsOfMoment u → 0 < n → AreLoaded u line header n words → IsHeaded u f header
loaded_header v u f line header n words among at plain on stands some h =
    let there = on.learns.found f among in
    let known = subst (λ (z : ℕ). Among (record { place = z * 4; value = header }) u.learned.known) (sym at)
    (loaded_known u line header n words some h) in
    record { among = there; known = known; lines = header_law u f header stands there plain known; few = few_lines u f stands there }

-- one word more
pub loaded_more : (v u : View) (line header n x : ℕ) (words : List ℕ) → 0 < n → n < length words → Extends v u
    → AreLoaded v line header n words → Among (record { place = line * 4 + n; value = x }) u.learned.known
    → AreLoaded u line header (n + 1) (set words n x)
loaded_more v u line header n x words some within extends h here = record {
  head = get_or-set_other words n 0 x 0 (λ e. (let m : 0 ≡ n = e in absurd (omega arith))) ∙ h.head;
  read = λ i less plain. pick i less plain (ℕ_discrete i n);
}
  where
    pick : (i : ℕ) → i < n + 1 → ¬ IsKeyWord (keys_of header) i → Dec (i ≡ n)
        → Among (record { place = line * 4 + i; value = get_or (set words n x) i 0 }) u.learned.known
    pick i less plain (yes e) =
        subst (λ (z : ℕ). Among (record { place = line * 4 + z; value = get_or (set words n x) z 0 }) u.learned.known) (sym e)
        (subst (λ (z : ℕ). Among (record { place = line * 4 + n; value = z }) u.learned.known)
        (sym (get_or-set_same words n x 0 within)) here)
    pick i less plain (no ne) =
        let before : i < n = omega (arith, ne) in
        subst (λ (z : ℕ). Among (record { place = line * 4 + i; value = z }) u.learned.known)
        (sym (get_or-set_other words n i x 0 ne)) (extends.learns.known _ (h.read i before plain))

-- the first word of a key entry is passed over
pub loaded_past : (v : View) (line header n : ℕ) (words : List ℕ) → IsKeyWord (keys_of header) n → AreLoaded v line header n words
    → AreLoaded v line header (n + 1) words
loaded_past v line header n words key h = record {
  head = h.head;
  read = λ i less plain. pick i less plain (ℕ_discrete i n);
}
  where
    pick : (i : ℕ) → i < n + 1 → ¬ IsKeyWord (keys_of header) i → Dec (i ≡ n)
        → Among (record { place = line * 4 + i; value = get_or words i 0 }) v.learned.known
    pick i less plain (yes e) = absurd (plain (subst (IsKeyWord (keys_of header)) (sym e) key))
    pick i less plain (no ne) = h.read i (omega (arith, ne)) plain

-- and with all of them, these are the words of the region
pub loaded_all : (v : View) (f : Found) (line header n : ℕ) (words : List ℕ) → n ≡ f.lines * 4 → line ≡ f.line → n ≤ length words
    → 0 < n → AreLoaded v line header n words → HasWords v f (take n words)
loaded_all v f line header n words full at within some h =
    let size = length-take-le n words within in
    let head : get_or (take n words) 0 0 ≡ header = get_or-take n words 0 0 some ∙ h.head in
    record {
      full = size ∙ full;
      read = λ i less plain.
          let below : i < n = omega arith in
          subst (λ (z : ℕ × ℕ). Among (record { place = z.0 * 4 + i; value = z.1 }) v.learned.known)
          (λ j. (at j, sym (get_or-take n words i 0 below) j))
          (h.read i below (subst (λ (z : ℕ). ¬ IsKeyWord (keys_of z) i) head plain));
    }

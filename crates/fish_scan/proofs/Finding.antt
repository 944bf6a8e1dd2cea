-- What is found of one number, of none, and of two ranges that touch.
use Rattle.std.proofs.Common.{◌≡◌, ℕ, ◌<◌, ◌≤◌, suc, List, [], ◌∷◌, ◌++◌, refl, sym, ap, subst, ⊎_elim, inl, inr, arith}
use Rattle.std.proofs.Math.Decide.{dec_lt}
use Rattle.fish_catalog.specs.declared.entry.Entry.TheVariants as entry
use Rattle.fish_lang.specs.Definition.{Definition}
use Rattle.fish_psf.specs.Records.{GivesValue}
use Rattle.fish_psf.specs.SelectLaw.{FallsBelow}
use Rattle.fish_rule.proofs.laws.Moments.{entry_once}
use Rattle.fish_rule.proofs.laws.Lists.{among_either, among_left, among_right}
use Rattle.fish_rule.proofs.laws.ChainFacts.{always_later}
use Rattle.fish_rule.specs.Logs.{IsEntry, Learns, KnowsAs}
use Rattle.fish_rule.specs.Views.{Among}
use Rattle.fish_rule.specs.Rule.{Rule}
use Rattle.fish_rule.specs.ChainFacts.{Always}
use Rattle.fish_rule.specs.World.{World}
use Rattle.fish_rule.specs.declared.view.Key.{Key}
use Rattle.fish_rule.specs.declared.view.View.{View}
use Rattle.fish_scan.specs.Matching.{Finds, Matches}
use Rattle.fish_value.specs.declared.field.Form.{Form}
use Rattle.fish_value.specs.declared.row.Row.{Row}
use Rattle.fish_value.specs.declared.value.Value.{Value}

-- ---- falling rows

-- rows that fall below a number fall below a greater one
falls_more : (m n : ℕ) (rows : List Row) → m ≤ n → FallsBelow m rows → FallsBelow n rows
falls_more m n [] less f = tt
falls_more m n (row ∷ rows) less f = (let a = f.0 in omega arith, f.1)

-- rows that fall below all of others go after them
pub falls_both : (n m : ℕ) (rows others : List Row) → FallsBelow n rows → ((row : Row) → Among row rows → m ≤ row.number)
    → m ≤ n → FallsBelow m others → FallsBelow n (rows ++ others)
falls_both n m [] others f above less g = falls_more m n others less g
falls_both n m (row ∷ rows) others f above less g =
    (f.0, falls_both row.number m rows others f.1 (λ x among. above x (inr among)) (above row (inl refl)) g)

-- each of falling rows is below where they fall from
pub falls_below : (n : ℕ) (rows : List Row) (row : Row) → FallsBelow n rows → Among row rows → row.number < n
falls_below n [] row f m = elim m [ ]
falls_below n (x ∷ rows) row f (inl e) = subst (λ (z : Row). z.number < n) e f.0
falls_below n (x ∷ rows) row f (inr m) = (let a = falls_below x.number rows row f.1 m in let b = f.0 in omega arith)

-- ---- ranges

-- nothing is found in an empty range
pub finds_none : (v : View) (def : Definition) (value : Value) (n : ℕ) (opens : List ℕ) → Finds v def value n n opens []
finds_none v def value n opens = record {
  falls = tt;
  above = λ row m. elim m [ ];
  closed = λ row m. elim m [ ];
  sound = λ row m. elim m [ ];
  complete = λ row after before closed. absurd (omega arith);
}

-- what was found is found later
pub finds_later : (v u : View) (def : Definition) (value : Value) (from to : ℕ) (opens : List ℕ) (rows : List Row)
    → Learns v u → Finds v def value from to opens rows → Finds u def value from to opens rows
finds_later v u def value from to opens rows learns h = record {
  falls = h.falls;
  above = h.above;
  closed = h.closed;
  sound = λ row m. always_later v u _ learns (h.sound row m);
  complete = λ row after before closed. always_later v u _ learns (h.complete row after before closed);
}

-- what is found in two ranges that touch
pub finds_both : (v : View) (def : Definition) (value : Value) (from mid to : ℕ) (opens : List ℕ) (rows others : List Row)
    → from ≤ mid → mid ≤ to → Finds v def value mid to opens rows → Finds v def value from mid opens others
    → Finds v def value from to opens (rows ++ others)
finds_both v def value from mid to opens rows others less more h g = record {
  falls = falls_both to mid rows others h.falls h.above more g.falls;
  above = λ row m. ⊎_elim (λ (a : Among row rows). let b = h.above row a in omega arith)
      (λ (a : Among row others). g.above row a) (among_either row rows others m);
  closed = λ row m. ⊎_elim (λ (a : Among row rows). h.closed row a) (λ (a : Among row others). g.closed row a)
      (among_either row rows others m);
  sound = λ row m. ⊎_elim (λ (a : Among row rows). h.sound row a) (λ (a : Among row others). g.sound row a)
      (among_either row rows others m);
  complete = λ row after before closed. either row after before closed (dec_lt row.number mid);
}
  where
    either : (row : Row) → from ≤ row.number → row.number < to → ¬ Among row.number opens → Dec (row.number < mid)
        → Always v (λ k w. Matches def value row k w → Among row (rows ++ others))
    either row after before closed (yes low) x learns w r seat at m =
        among_right row rows others (g.complete row after low closed x learns w r seat at m)
    either row after before closed (no high) x learns w r seat at m =
        among_left row rows others (h.complete row (omega arith) before closed x learns w r seat at m)

-- ---- one number

-- a number at which no record matches
pub finds_other : (v : View) (def : Definition) (value : Value) (n : ℕ) (opens : List ℕ)
    → ((payload : List ℕ) → Always v (λ k w. ¬ Matches def value (record { number = n; payload = payload }) k w))
    → Finds v def value n (suc n) opens []
finds_other v def value n opens other = record {
  falls = tt;
  above = λ row m. elim m [ ];
  closed = λ row m. elim m [ ];
  sound = λ row m. elim m [ ];
  complete = λ row after before closed x learns w r seat at m.
      let same : row.number ≡ n = omega arith in
      absurd (other row.payload x learns w r seat at
      (subst (λ (z : ℕ). Matches def value (record { number = z; payload = row.payload }) x.about w) same m));
}

-- an open number
pub finds_open : (v : View) (def : Definition) (value : Value) (n : ℕ) (opens : List ℕ) → Among n opens
    → Finds v def value n (suc n) opens []
finds_open v def value n opens among = record {
  falls = tt;
  above = λ row m. elim m [ ];
  closed = λ row m. elim m [ ];
  sound = λ row m. elim m [ ];
  complete = λ row after before closed.
      let same : row.number ≡ n = omega arith in
      absurd (closed (subst (λ (z : ℕ). Among z opens) (sym same) among));
}

-- records at one number that match are one row
pub same_row : (def : Definition) (value : Value) (a b : Row) (k : Key) (w : World) → Rule k w → a.number ≡ b.number
    → Matches def value a k w → Matches def value b k w → a ≡ b
same_row def value a b k w r same mine theirs =
    let one = entry_once r b.number (entry.Stored mine.0 mine.1 a.payload) (entry.Stored theirs.0 theirs.1 b.payload)
    (subst (λ (z : ℕ). IsEntry w z (entry.Stored mine.0 mine.1 a.payload)) same mine.2) theirs.2 in
    λ i. record { number = same i; payload = payloads mine.0 theirs.0 mine.1 theirs.1 a.payload b.payload one i }
  where
    payloads : (a b : ℕ) (f g : Form) (p q : List ℕ) → entry.Stored a f p ≡ entry.Stored b g q → p ≡ q
    payloads a b f g p q e = cc

-- a number at which a record matches
pub finds_one : (v : View) (def : Definition) (value : Value) (row : Row) (opens : List ℕ) → ¬ Among row.number opens
    → Always v (Matches def value row) → Finds v def value row.number (suc row.number) opens (row ∷ [])
finds_one v def value row opens closed matches = record {
  falls = (omega arith, tt);
  above = λ x m. ⊎_elim (λ (e : row ≡ x). let same = ap (λ (z : Row). z.number) e in omega arith)
      (λ (none : ⊥). absurd none) m;
  closed = λ x m among. ⊎_elim (λ (e : row ≡ x). closed (subst (λ (z : ℕ). Among z opens)
      (sym (ap (λ (z : Row). z.number) e)) among)) (λ (none : ⊥). absurd none) m;
  sound = λ x m. ⊎_elim (λ (e : row ≡ x). subst (λ (z : Row). Always v (Matches def value z)) e matches)
      (λ (none : ⊥). absurd none) m;
  complete = λ x after before free y learns w r seat at m.
      let same : row.number ≡ x.number = omega arith in
      inl (same_row def value row x y.about w r same (matches y learns w r seat at) m);
}

-- a record for which the definition gives another value, or none, doesn't match
pub told_other : (v : View) (def : Definition) (value : Value) (n lane : ℕ) (form : Form) (payload : List ℕ)
    → KnowsAs v n (entry.Stored lane form payload) → ¬ GivesValue def form payload value
    → (other : List ℕ) → Always v (λ k w. ¬ Matches def value (record { number = n; payload = other }) k w)
told_other v def value n lane form payload tells differs other x learns w r seat at m =
    let one = entry_once r n (entry.Stored lane form payload) (entry.Stored m.0 m.1 other)
    (tells x learns w r seat at) m.2 in
    differs (gives lane m.0 form m.1 payload other one m.3)
  where
    gives : (a b : ℕ) (f g : Form) (p q : List ℕ) → entry.Stored a f p ≡ entry.Stored b g q
        → GivesValue def g q value → GivesValue def f p value
    gives a b f g p q e is =
        let form_is : f ≡ g = cc in
        let payload_is : p ≡ q = cc in
        subst (λ (z : Form × List ℕ). GivesValue def z.0 z.1 value) (sym (λ i. (form_is i, payload_is i))) is

-- no record stands at a number where something else does
pub told_void : (v : View) (def : Definition) (value : Value) (n : ℕ) → KnowsAs v n entry.Void
    → (other : List ℕ) → Always v (λ k w. ¬ Matches def value (record { number = n; payload = other }) k w)
told_void v def value n tells other x learns w r seat at m =
    let one = entry_once r n entry.Void (entry.Stored m.0 m.1 other) (tells x learns w r seat at) m.2 in
    bad m.0 m.1 one
  where
    bad : (a : ℕ) (f : Form) → entry.Void ≡ entry.Stored a f other → ⊥
    bad a f e = cc

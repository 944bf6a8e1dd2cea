-- Where the record is that was found at a number.
use Rattle.std.proofs.Common.{◌≡◌, ◌≢◌, ℕ, ◌+◌, ◌*◌, ◌<◌, ◌≤◌, List, zero, suc, refl, sym, ap, ◌∙◌, subst, inl, inr, arith}
use Rattle.fish_rule.proofs.laws.Entries.{stored_words}
use Rattle.fish_rule.proofs.laws.Learning.{extends_look}
use Rattle.fish_rule.proofs.laws.Steps.{fits_law, found_law, read_law}
use Rattle.fish_rule.specs.Logs.{Extends}
use Rattle.fish_rule.specs.Regions.{code, dir_word, kind_of}
use Rattle.fish_rule.specs.LoadSteps.{after_look_at, found_after, kind_told}
use Rattle.fish_rule.specs.Table.{Sees, IsOfMoment}
use Rattle.fish_rule.specs.Views.{Among}
use Rattle.fish_rule.specs.World.{World, high, low}
use Rattle.fish_rule.specs.declared.view.Found.{Found}
use Rattle.fish_rule.specs.declared.view.Kind.{Kind}
use Rattle.fish_rule.specs.declared.view.Kind.TheVariants.{Mark, Stored, Void}
use Rattle.fish_rule.specs.declared.view.View.{View}
use Rattle.fish_walk.specs.Looks.{IsEntryLook, look_of_word, look_of_kind}
use Rattle.fish_walk.specs.declared.outcome.Look.TheVariants as Look

-- its line has 36 bits
low_line : (v : View) (f : Found) → IsOfMoment v → Among f v.learned.found → f.kind ≡ Stored
    → f.line < 68719476736
low_line v f s among is =
    let some = found_law v f s among in
    let law = read_law v.about v f 0 refl s
    (record {
      found = among;
      words = stored_words f.kind is;
      inside = omega arith;
      plain = inl refl;
    }) in
    let end = law.1 in
    let low_end = (fits_law v s).low_end in
    omega arith

-- so it is what the low bits of the directory word say
pub word_line : (v : View) (f : Found) (x : ℕ) → IsOfMoment v → Among f v.learned.found
    → f.kind ≡ Stored → x ≡ dir_word f.kind f.line
    → f.line ≡ low x
unfolding low
word_line v f x s among is word =
    let small = low_line v f s among is in
    let same : x ≡ f.line + 68719476736 = word ∙ ap (λ (k : Kind). f.line + code k * 68719476736) is ∙ (omega arith) in
    omega arith

-- a view only learns by a look
pub look_extends : (v u : View) (n lines x : ℕ) → u ≡ after_look_at v n lines x → Extends v u
look_extends v u n lines x e = subst (Extends v) (sym e) (extends_look v n lines x)

-- a look at a record that was found before finds it again, at the line of the word
pub look_finds : (v u : View) (n lines x line : ℕ) (f : Found) → IsOfMoment v → u ≡ after_look_at v n lines x
    → x ≡ dir_word f.kind f.line → Among f v.learned.found → f.kind ≡ Stored → line ≡ low x
    → Among f u.learned.found × (f.line ≡ line) × (f.kind ≢ Mark)
look_finds v u n lines x line f s e word among is at =
    let extends = look_extends v u n lines x e in
    (extends.learns.found f among, word_line v f x s among is word ∙ sym at, stored_words f.kind is)

-- a look that tells of a record has found it
found_stored : (n lines x : ℕ) (found : List Found) → Look.Stored ≡ look_of_word x → (f : Found)
    × Among f (found_after n lines x found) × (f.number ≡ n) × (f.kind ≡ Stored)
found_stored n lines zero found e = cc
found_stored n lines (suc x) found e = (
  record { number = n; kind = kind_told (high (suc x)); line = low (suc x); lines = lines },
  inl refl,
  refl,
  by (kind_told (high (suc x))) e,
)
  where
    by : (k : Kind) → Look.Stored ≡ look_of_kind k → k ≡ Stored
    by Stored e = refl
    by Void e = cc
    by Mark e = cc

-- the same of the view after it
pub stored_law : (v u : View) (n lines x : ℕ) → u ≡ after_look_at v n lines x → Look.Stored ≡ look_of_word x
    → (f : Found) × Among f u.learned.found × (f.number ≡ n) × (f.kind ≡ Stored)
stored_law v u n lines x e is =
    subst (λ (z : View). (f : Found) × Among f z.learned.found × (f.number ≡ n) × (f.kind ≡ Stored)) (sym e)
    (found_stored n lines x v.learned.found is)

-- ---- settled numbers

-- a code tells its kind
told_code : (kind : Kind) → kind_told (code kind) ≡ kind
told_code Stored = refl
told_code Void = refl
told_code Mark = refl

-- the word of a kind that is no mark
entry_look : (word : ℕ) (kind : Kind) → word ≢ 0 → kind_told (high word) ≡ kind → kind ≢ Mark
    → IsEntryLook (look_of_word word)
entry_look zero kind some_ is plain = absurd (some_ refl)
entry_look (suc x) Stored some_ is plain = inl (ap look_of_kind is)
entry_look (suc x) Void some_ is plain = inr (ap look_of_kind is)
entry_look (suc x) Mark some_ is plain = absurd (plain refl)

-- whoever looks at a number of the table below the settled number that it knows sees a record or a void
pub settled_seen : (v : View) (n word : ℕ) → v.about.number ≤ n → n < v.learned.settled → Sees v n word
    → IsEntryLook (look_of_word word)
settled_seen v n word above below s =
    let w : World = s.moment in
    let r = s.rule in
    let floor = r.floors s.seat v s.at in
    let within = r.settling.within in
    let e = r.settling.below n above (omega arith) in
    let f = r.space.finished n above (omega arith) e.published in
    let kind : Kind = kind_of v.about.end (r.start n) (r.start (suc n)) in
    let same : kind_told (high word) ≡ kind = ap (λ (z : ℕ). kind_told (high z)) s.is ∙ ap kind_told f.kind
    ∙ told_code kind in
    entry_look word kind (λ none. e.published (sym s.is ∙ none)) same (λ m. e.unmarked (f.kind ∙ ap code m))

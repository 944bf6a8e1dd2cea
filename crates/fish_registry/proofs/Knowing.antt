-- What a registrar keeps stays what its pass knows.
use Rattle.std.proofs.Common.{◌≡◌, ◌≢◌, ℕ, ◌+◌, ◌<◌, ◌≤◌, zero, suc, List, [], ◌∷◌, ◌++◌, Option, Some, None, All, is_none}
use Rattle.std.proofs.Common.{length, map, slice_get, refl, sym, ap, ◌∙◌, subst, inl, inr, arith}
use Rattle.std.proofs.Math.Decide.{ℕ_discrete}
use Rattle.std.proofs.lemmas.List.{length-map}
use Rattle.std.proofs.lemmas.Option.{get_or_from_slice_get, same_Some, slice_get_within}
use Rattle.fish_catalog.proofs.Changes.{push_cases}
use Rattle.fish_catalog.proofs.Closing.{listed_with_from, listed_with_to, with_from_at, with_to_at}
use Rattle.fish_catalog.specs.Closing.{AwaitsTo, with_to}
use Rattle.fish_catalog.specs.Listing.{IsListing, IsOnAt, ended_at, listed_of}
use Rattle.fish_catalog.specs.Rows.{new_row, with_from}
use Rattle.fish_catalog.specs.Words.{bound_word, row_word}
use Rattle.fish_catalog.specs.declared.listed.Listed.{Listed}
use Rattle.fish_catalog.specs.declared.row.CatRow.{CatRow}
use Rattle.fish_layout.proofs.Clearing.{choose_first, choose_second}
use Rattle.fish_registry.specs.Changing.{OnlyLoads}
use Rattle.fish_registry.specs.Knowing.{Awaits, HasBegunBy, IsAwaited, IsWaitingFor, KnowsFirst}
use Rattle.fish_registry.specs.within.Knowing.{KnowsOn}
use Rattle.fish_registry.specs.Knowing.{KnowsRows}
use Rattle.fish_registry.specs.Looking.{at_lane}
use Rattle.fish_registry.specs.within.Looking.{HasBound, Looks}
use Rattle.fish_registry.specs.within.Rows.{HasEnded, HasAddedRow, HasTailed, MayEndRow}
use Rattle.fish_registry.specs.declared.registrar.Registrar.{Registrar}
use Rattle.fish_registry.specs.declared.registrar.Waiting.{Waiting}
use Rattle.fish_rule.proofs.laws.Versions.{drafted_here, set_here}
use Rattle.fish_rule.specs.Registry.{control_word, row_at}
use Rattle.fish_rule.specs.Table.{boundaries_of, first_view}
use Rattle.fish_rule.specs.Views.{Among}
use Rattle.fish_rule.specs.declared.view.RegistryWord.{RegistryWord}
use Rattle.fish_rule.specs.declared.view.View.{View}

-- ---- other calls of the pass

-- the registration waits in a view with the same one
awaits_on : (v u : View) (o : Option Waiting) → u.round ≡ v.round → Awaits v o → Awaits u o
awaits_on v u None same h = same ∙ h
awaits_on v u (Some w) same h = record {
  round = h.round;
  waits = same ∙ h.waits;
  id = h.id;
  version = h.version;
  checked = h.checked;
  some = h.some;
  few = h.few;
}

-- words that are all read later too
abbrev Rereads : View → View → Type 0
Rereads v u = (x : RegistryWord) → Among x v.learned.words → Among x u.learned.words

-- with the same words, they are
rereads_same : (v u : View) → u.learned.words ≡ v.learned.words → Rereads v u
rereads_same v u same x m = subst (λ (z : List RegistryWord). Among x z) (sym same) m

-- with the same lane, definitions, boundaries and registration, and no smaller count, all stays known
pub knows_rows : (v u : View) (rows : List CatRow) (waiting : Option Waiting) → u.lane ≡ v.lane → u.rows ≡ v.rows
    → u.control_words ≡ v.control_words → u.round ≡ v.round → v.learned.count ≤ u.learned.count → Rereads v u
    → KnowsRows v rows waiting → KnowsRows u rows waiting
knows_rows v u rows waiting lane same control_words round count words h = record {
  control = lane ∙ h.control;
  listed = h.listed ∙ sym same;
  bounds = λ id row there. let b = h.bounds id row there in
      record {
        from = ap (λ (ws : List RegistryWord). control_word ws (row_at id 0)) control_words ∙ b.from;
        to = ap (λ (ws : List RegistryWord). control_word ws (row_at id 1)) control_words ∙ b.to;
        read_from = λ n is. words _ (b.read_from n is);
        read_to = λ n is. words _ (b.read_to n is);
        counted = λ n is. (let most = b.counted n is in omega arith);
      };
  begun = h.begun;
  awaits = awaits_on v u waiting round h.awaits;
  unset = h.unset;
}

pub knows_on : KnowsOn
knows_on v u r lane same control_words round learns h =
    knows_rows v u r.catalog r.waiting lane same control_words round learns.count learns.words h

-- so it does where nothing but the clock changed
pub knows_stays : (v u : View) (rows : List CatRow) (waiting : Option Waiting) → OnlyLoads v u → KnowsRows v rows waiting
    → KnowsRows u rows waiting
knows_stays v u rows waiting stays h = knows_rows v u rows waiting (ap (λ (z : View). z.lane) stays.frame)
    (ap (λ (z : View). z.rows) stays.frame) (ap (λ (z : View). z.control_words) stays.frame)
    (ap (λ (z : View). z.round) stays.frame)
    (let e = ap (λ (z : View). z.learned.count) stays.frame in omega arith)
    (rereads_same v u (ap (λ (z : View). z.learned.words) stays.frame)) h

-- and where the tail was loaded
pub knows_tailed : (v u : View) (rows : List CatRow) (waiting : Option Waiting) (n : ℕ) → HasTailed v u n
    → KnowsRows v rows waiting → KnowsRows u rows waiting
knows_tailed v u rows waiting n tailed h = knows_rows v u rows waiting (ap (λ (z : View). z.lane) tailed.view)
    (ap (λ (z : View). z.rows) tailed.view) (ap (λ (z : View). z.control_words) tailed.view)
    (ap (λ (z : View). z.round) tailed.view)
    (let e = ap (λ (z : View). z.learned.count) tailed.view in let more = tailed.more in let is = tailed.is in omega arith)
    (rereads_same v u (ap (λ (z : View). z.learned.words) tailed.view)) h

-- ---- the start

-- the words of a row's boundaries
from_is : (row : CatRow) → row_word row 0 ≡ bound_word row.from
unfolding row_word
from_is row = refl

to_is : (row : CatRow) → row_word row 1 ≡ bound_word row.to
unfolding row_word
to_is row = refl

-- what holds of each row holds of one
row_has : (P : CatRow → Type 0) (rows : List CatRow) → All P rows → (id : ℕ) (row : CatRow)
    → slice_get rows id ≡ Some row → P row
row_has P rows h id row there = subst P (get_or_from_slice_get rows id row row there)
    (h id row (slice_get_within rows id row there))

-- an index that has begun isn't one that hasn't
begun_not : (row : CatRow) (n : ℕ) → HasBegunBy n row → row.from ≢ None
begun_not row n h none = (let e = sym none ∙ h.begins in cc)

-- a registrar of the rows with which a log begins knows what its first pass knows
pub knows_first : (r : Registrar) → r.waiting ≡ None → KnowsFirst r
knows_first r settled k same begun =
    let v : View = first_view k in
    let rows : List CatRow = r.catalog in
    record {
      control = refl;
      listed = ap (map listed_of) (sym same);
      bounds = λ id row there.
          let at = ap (λ (xs : List CatRow). slice_get xs id) same ∙ there in
          let position : 0 + id ≡ id = omega arith in
          let h = row_has (HasBegunBy k.number) rows begun id row there in
          record {
            from = ap (λ (n : ℕ). control_word (boundaries_of 0 k.rows.value) (row_at n 0)) (sym position)
                ∙ drafted_here 0 id 0 k.rows.value row at (omega arith) ∙ from_is row;
            to = ap (λ (n : ℕ). control_word (boundaries_of 0 k.rows.value) (row_at n 1)) (sym position)
                ∙ drafted_here 0 id 1 k.rows.value row at (omega arith) ∙ to_is row;
            read_from = λ n is. subst (λ (m : ℕ). Among (record { index = row_at m 0; value = suc n }) v.learned.words) position
                (set_here 0 id 0 n k.rows.value row at (omega arith) (from_is row ∙ ap bound_word is));
            read_to = λ n is. subst (λ (m : ℕ). Among (record { index = row_at m 1; value = suc n }) v.learned.words) position
                (set_here 0 id 1 n k.rows.value row at (omega arith) (to_is row ∙ ap bound_word is));
            counted = λ n is. (let e : h.from ≡ n = same_Some h.from n (sym h.begins ∙ is) in
                let early = h.early in omega arith);
          };
      begun = λ id row there none. absurd (begun_not row k.number (row_has (HasBegunBy k.number) rows begun id row there)
          none);
      awaits = subst (Awaits v) (sym settled) refl;
      unset = λ id waits. elim (subst (λ (o : Option Waiting). IsWaitingFor o id) settled waits) [ ];
    }

-- ---- a registration

-- the new row is after the others
new_there : (rows : List CatRow) (row : CatRow) → slice_get (rows ++ row ∷ []) (length rows) ≡ Some row
new_there [] row = refl
new_there (x ∷ rows) row = new_there rows row

-- the definitions of the rows with one more
listed_more : (rows : List CatRow) (row : CatRow) → map listed_of (rows ++ row ∷ []) ≡ map listed_of rows ++ listed_of row ∷ []
listed_more [] row = refl
listed_more (x ∷ rows) row = ap (λ ls. listed_of x ∷ ls) (listed_more rows row)

-- no registration waited, and now that of the new row does
pub knows_begun : (v u : View) (rows : List CatRow) (name def : List ℕ) (id version : ℕ) → KnowsRows v rows None
    → id ≡ length rows → version ≡ v.learned.version → HasAddedRow v (new_row (length rows) name def) u
    → ((n i : ℕ) → length v.rows ≤ n → n < 256 → i < 2 → control_word v.control_words (row_at n i) ≡ 0) → length rows < 256
    → KnowsRows u (rows ++ new_row (length rows) name def ∷ []) (Some (record { id = id; version = version + 1; lane = 2 }))
knows_begun v u rows name def id version h is_id is_version made unset room =
    let row : CatRow = new_row (length rows) name def in
    let size : length v.rows ≡ length rows = ap (λ (ls : List Listed). length ls) (sym h.listed)
    ∙ length-map rows listed_of in
    record {
      control = ap (λ (z : View). z.lane) made.changes.frame ∙ h.control;
      listed = listed_more rows row ∙ ap (λ ls. ls ++ listed_of row ∷ []) h.listed ∙ sym made.rows;
      bounds = λ n b there. elim (push_cases rows row n b there) [
        | inl old ↦ (let o = h.bounds n b old in
            record {
              from = made.bounds n 0 (omega arith) ∙ o.from;
              to = made.bounds n 1 (omega arith) ∙ o.to;
              read_from = λ m is. made.changes.words _ (o.read_from m is);
              read_to = λ m is. made.changes.words _ (o.read_to m is);
              counted = λ m is. (let most = o.counted m is in let up = made.changes.count in omega arith);
            })
        | inr new ↦ (let position = new.0 in
            record {
              from = made.bounds n 0 (omega arith) ∙ unset n 0 (omega arith) (omega arith) (omega arith)
                  ∙ ap (λ (r : CatRow). bound_word r.from) new.1;
              to = made.bounds n 1 (omega arith) ∙ unset n 1 (omega arith) (omega arith) (omega arith)
                  ∙ ap (λ (r : CatRow). bound_word r.to) new.1;
              read_from = λ m is. (let e = sym (ap (λ (r : CatRow). r.from) new.1 ∙ is) in absurd cc);
              read_to = λ m is. (let e = sym (ap (λ (r : CatRow). r.to) new.1 ∙ is) in absurd cc);
              counted = λ m is. (let e = sym (ap (λ (r : CatRow). r.from) new.1 ∙ is) in absurd cc);
            })
      ];
      begun = λ n b there none. elim (push_cases rows row n b there) [
        | inl old ↦ elim (h.begun n b old none) [ ]
        | inr new ↦ is_id ∙ sym new.0
      ];
      awaits = record {
        round = record { id = row.id; version = suc v.learned.version; checked = 1 ∷ []; bound = None };
        waits = made.round;
        id = sym is_id;
        version = omega arith;
        checked = λ l above below. inl (omega arith);
        some = omega arith;
        few = omega arith;
      };
      unset = λ n is. record {
        row = row;
        there = subst (λ (m : ℕ). slice_get (rows ++ row ∷ []) m ≡ Some row) (sym is_id ∙ is) (new_there rows row);
        unset = refl;
      };
    }

-- ---- a look at the lanes

-- an older lane leaves all known, with another lane to look at next
pub knows_older : (v u : View) (rows : List CatRow) (w : Waiting) (lane : ℕ) → KnowsRows v rows (Some w) → Looks v u
    → IsAwaited u (at_lane w lane) → KnowsRows u rows (Some (at_lane w lane))
knows_older v u rows w lane h looks awaited = record {
  control = ap (λ (z : View). z.lane) looks.frame ∙ h.control;
  listed = h.listed ∙ sym (ap (λ (z : View). z.rows) looks.frame);
  bounds = λ id row there. let b = h.bounds id row there in
      let control_words = ap (λ (z : View). z.control_words) looks.frame in
      let count = ap (λ (z : View). z.learned.count) looks.frame in
      let words = ap (λ (z : View). z.learned.words) looks.frame in
      record {
        from = ap (λ (ws : List RegistryWord). control_word ws (row_at id 0)) control_words ∙ b.from;
        to = ap (λ (ws : List RegistryWord). control_word ws (row_at id 1)) control_words ∙ b.to;
        read_from = λ n is. rereads_same v u words _ (b.read_from n is);
        read_to = λ n is. rereads_same v u words _ (b.read_to n is);
        counted = λ n is. (let most = b.counted n is in omega arith);
      };
  begun = h.begun;
  awaits = awaited;
  unset = h.unset;
}

-- an index that begins leaves no registration that waits
pub knows_bound : (v u z : View) (rows : List CatRow) (w : Waiting) (from : ℕ) → KnowsRows v rows (Some w) → Looks v u
    → HasBound u w z from → KnowsRows z (with_from rows w.id from) None
knows_bound v u z rows w from h looks bound =
    let draft_u = ap (λ (y : View). y.control_words) looks.frame in
    let word : RegistryWord = record { index = row_at w.id 0; value = suc from } in
    let stored : z.control_words ≡ word ∷ v.control_words = bound.control_words ∙ ap (λ ws. word ∷ ws) draft_u in
    let here : (p : ℕ) → p ≡ row_at w.id 0 → control_word z.control_words p ≡ suc from =
    λ p e. ap (λ (ws : List RegistryWord). control_word ws p) stored
    ∙ choose_first (ℕ_discrete p (row_at w.id 0)) (suc from) (control_word v.control_words p) e in
    let other : (p : ℕ) → p ≢ row_at w.id 0 → control_word z.control_words p ≡ control_word v.control_words p =
    λ p ne. ap (λ (ws : List RegistryWord). control_word ws p) stored
    ∙ choose_second (ℕ_discrete p (row_at w.id 0)) (suc from) (control_word v.control_words p) ne in
    let count_u = ap (λ (y : View). y.learned.count) looks.frame in
    let more = bound.changes.count in
    let count = bound.count in
    let reread : Rereads v z =
    λ x m. bound.changes.words x (rereads_same v u (ap (λ (y : View). y.learned.words) looks.frame) x m) in
    record {
      control = ap (λ (y : View). y.lane) bound.changes.frame ∙ ap (λ (y : View). y.lane) looks.frame ∙ h.control;
      listed = listed_with_from rows w.id from ∙ h.listed ∙ sym (ap (λ (y : View). y.rows) looks.frame) ∙ sym bound.rows;
      bounds = λ n b there. let was = with_from_at rows w.id from n b there in
          let o = h.bounds n was.0 was.1 in
          elim was.2 [
            | inl same ↦ (let position = same.0 in
                record {
                  from = here (row_at n 0) (omega arith) ∙ ap (λ (r : CatRow). bound_word r.from) same.1;
                  to = other (row_at n 1) (λ e. omega arith) ∙ o.to ∙ ap (λ (r : CatRow). bound_word r.to) same.1;
                  read_from = λ m is. (let e : from ≡ m = same_Some from m (ap (λ (r : CatRow). r.from) same.1 ∙ is) in
                      subst (λ (y : ℕ × ℕ). Among (record { index = row_at y.0 0; value = suc y.1 }) z.learned.words)
                      (λ i. (sym position i, e i)) bound.read);
                  read_to = λ m is. reread _ (o.read_to m (ap (λ (r : CatRow). r.to) same.1 ∙ is));
                  counted = λ m is. (let e : from ≡ m = same_Some from m (ap (λ (r : CatRow). r.from) same.1 ∙ is) in
                      omega arith);
                })
            | inr apart ↦ (let ne = apart.0 in
                record {
                  from = other (row_at n 0) (λ e. ne (omega arith)) ∙ o.from
                      ∙ ap (λ (r : CatRow). bound_word r.from) apart.1;
                  to = other (row_at n 1) (λ e. omega arith) ∙ o.to ∙ ap (λ (r : CatRow). bound_word r.to) apart.1;
                  read_from = λ m is. reread _ (o.read_from m (ap (λ (r : CatRow). r.from) apart.1 ∙ is));
                  read_to = λ m is. reread _ (o.read_to m (ap (λ (r : CatRow). r.to) apart.1 ∙ is));
                  counted = λ m is. (let most = o.counted m (ap (λ (r : CatRow). r.from) apart.1 ∙ is) in omega arith);
                })
          ];
      begun = λ n b there none. let was = with_from_at rows w.id from n b there in
          elim was.2 [
            | inl same ↦ (let e = ap (λ (r : CatRow). r.from) same.1 ∙ none in cc)
            | inr apart ↦ absurd (apart.0 (sym (h.begun n was.0 was.1 (ap (λ (r : CatRow). r.from) apart.1 ∙ none))))
          ];
      awaits = bound.round;
      unset = λ n is. elim is [ ];
    }

-- ---- an end

-- an active row of a catalogue whose index has begun may end
pub may_close : (v : View) (rows : List CatRow) (id to : ℕ) (row : CatRow) → KnowsRows v rows None
    → slice_get rows id ≡ Some row → row.to ≡ None → v.learned.count ≤ to → AwaitsTo rows id to
may_close v rows id to row h there active more = by row.from refl
  where
    by : (from : Option ℕ) → row.from ≡ from → AwaitsTo rows id to
    by None none = elim (h.begun id row there none) [ ]
    by (Some n) is = record {
      row = row;
      there = there;
      active = active;
      from = n;
      begins = is;
      upto = (let most = (h.bounds id row there).counted n is in omega arith);
    }

-- a row's definition stands at its position
listed_there : (xs : List CatRow) (k : ℕ) (x : CatRow) → slice_get xs k ≡ Some x
    → slice_get (map listed_of xs) k ≡ Some (listed_of x)
listed_there [] k x at = absurd cc
listed_there (y ∷ xs) zero x at = ap (λ (r : CatRow). Some (listed_of r)) (same_Some y x at)
listed_there (y ∷ xs) (suc k) x at = listed_there xs k x at

-- an active row's definition is active
pub on_of : (v : View) (rows : List CatRow) (id : ℕ) (row : CatRow) → KnowsRows v rows None
    → slice_get rows id ≡ Some row → row.to ≡ None → IsOnAt v.rows id
on_of v rows id row h there active = subst (λ (ls : List Listed). IsOnAt ls id) h.listed (record {
  listed = listed_of row;
  there = listed_there rows id row there;
  active = ap (λ (t : Option ℕ). is_none t) active;
})

-- so its index may end at the count of the tail
pub may_end : (v : View) (rows : List CatRow) (id to : ℕ) (row : CatRow) → IsListing v.rows → KnowsRows v rows None
    → slice_get rows id ≡ Some row → row.to ≡ None → v.about.number ≤ to → to ≡ v.learned.count → MayEndRow v id to
may_end v rows id to row listing h there active above counted = by row.from refl
  where
    size : length v.rows ≡ length rows
    size = ap (λ (ls : List Listed). length ls) (sym h.listed) ∙ length-map rows listed_of

    by : (from : Option ℕ) → row.from ≡ from → MayEndRow v id to
    by None none = elim (h.begun id row there none) [ ]
    by (Some n) is =
        let inside = slice_get_within rows id row there in
        let few = listing.few in
        let sized = size in
        let most = (h.bounds id row there).counted n is in
        record {
          on = on_of v rows id row h there active;
          few = omega arith;
          from = n;
          began = (h.bounds id row there).from ∙ ap bound_word is;
          endless = (h.bounds id row there).to ∙ ap bound_word active;
          above = above;
          after = omega arith;
          within = omega arith;
        }

-- once it has ended, its row has the end
pub knows_ended : (v u : View) (rows : List CatRow) (id to : ℕ) (row : CatRow) → IsListing v.rows → KnowsRows v rows None
    → slice_get rows id ≡ Some row → HasEnded v id to u → KnowsRows u (with_to rows id to) None
knows_ended v u rows id to row listing h there ended =
    let ids : (n : ℕ) (r : CatRow) → slice_get rows n ≡ Some r → r.id ≡ n =
    λ n r at. listing.ids n (listed_of r)
    (ap (λ (ls : List Listed). slice_get ls n) (sym h.listed) ∙ listed_there rows n r at) in
    let up = ended.changes.count in
    record {
      control = ap (λ (z : View). z.lane) ended.changes.frame ∙ h.control;
      listed = listed_with_to rows id to ids (slice_get_within rows id row there) ∙ ap (ended_at id) h.listed
          ∙ sym ended.rows;
      bounds = λ n b at. let was = with_to_at rows id to n b at in
          let o = h.bounds n was.0 was.1 in
          elim was.2 [
            | inl same ↦ record {
              from = ap (λ (m : ℕ). control_word u.control_words (row_at m 0)) same.0 ∙ ended.from
                  ∙ ap (λ (m : ℕ). control_word v.control_words (row_at m 0)) (sym same.0) ∙ o.from
                  ∙ ap (λ (r : CatRow). bound_word r.from) same.1;
              to = ap (λ (m : ℕ). control_word u.control_words (row_at m 1)) same.0 ∙ ended.end
                  ∙ ap (λ (r : CatRow). bound_word r.to) same.1;
              read_from = λ m is. ended.changes.words _ (o.read_from m (ap (λ (r : CatRow). r.from) same.1 ∙ is));
              read_to = λ m is. (let e : to ≡ m = same_Some to m (ap (λ (r : CatRow). r.to) same.1 ∙ is) in
                  subst (λ (y : ℕ × ℕ). Among (record { index = row_at y.0 1; value = suc y.1 }) u.learned.words)
                  (λ i. (sym same.0 i, e i)) ended.read);
              counted = λ m is. (let most = o.counted m (ap (λ (r : CatRow). r.from) same.1 ∙ is) in omega arith);
            }
            | inr apart ↦ record {
              from = ended.bounds n 0 (omega arith) apart.0 ∙ o.from ∙ ap (λ (r : CatRow). bound_word r.from) apart.1;
              to = ended.bounds n 1 (omega arith) apart.0 ∙ o.to ∙ ap (λ (r : CatRow). bound_word r.to) apart.1;
              read_from = λ m is. ended.changes.words _ (o.read_from m (ap (λ (r : CatRow). r.from) apart.1 ∙ is));
              read_to = λ m is. ended.changes.words _ (o.read_to m (ap (λ (r : CatRow). r.to) apart.1 ∙ is));
              counted = λ m is. (let most = o.counted m (ap (λ (r : CatRow). r.from) apart.1 ∙ is) in omega arith);
            }
          ];
      begun = λ n b at none. let was = with_to_at rows id to n b at in
          elim was.2 [
            | inl same ↦ h.begun n was.0 was.1 (ap (λ (r : CatRow). r.from) same.1 ∙ none)
            | inr apart ↦ h.begun n was.0 was.1 (ap (λ (r : CatRow). r.from) apart.1 ∙ none)
          ];
      awaits = ended.round;
      unset = λ n is. elim is [ ];
    }

-- Look-ups among records of nodes: what is found among the records is, by what they are records of, what is found among those.
use Rattle.std.proofs.Common.{◌≡◌, ℕ, Bool, true, false, cond, not, ◌&&◌, ◌||◌, eqb, ltb, leb, List, [], ◌∷◌, map, Some, None, Option, refl, ap, ◌∙◌}
use Rattle.std.specs.List.{list_any}
use Rattle.nodes.specs.Records.{Entry}
use Rattle.tree.specs.Newest.{over, newest, at_most, unbeaten}
use Rattle.tree.specs.Nodes.{Span, span_of, titled, of_file, covers}
use Rattle.tree.specs.Lookups.{carried, any_below, title, leading, counts, named, needed_entry, last, giver, length_of, shows, seen, needed_content}
use Rattle.tree.specs.Laws.{LookupsOfRecords}

module _ {A B : Type 0} (f : A → B) where
  module _ (version : B → ℕ) (picked : B → Bool) where
    pub newest_carried : (rs : List A)
        → newest version picked (map f rs) ≡ carried f (newest (λ a. version (f a)) (λ a. picked (f a)) rs)
    unfolding newest
    newest_carried [] = refl
    newest_carried (r ∷ rs) = rw (newest_carried rs) (go (picked (f r)) (newest (λ a. version (f a)) (λ a. picked (f a)) rs))
      where
        pick : (b : Bool) (s : A) → cond b (f r) (f s) ≡ f (cond b r s)
        pick true s = refl
        pick false s = refl

        go : (b : Bool) (o : Option A)
            → cond b (Some (over version (f r) (carried f o))) (carried f o) ≡ carried f (cond b (Some (over (λ a. version (f a)) r o)) o)
        go false o = refl
        go true None = refl
        go true (Some s) = ap Some (pick (leb (version (f s)) (version (f r))) s)

    at_most_carried : (v : ℕ) (o : Option A) → at_most version v (carried f o) ≡ at_most (λ a. version (f a)) v o
    at_most_carried v None = refl
    at_most_carried v (Some a) = refl

    pub unbeaten_carried : (rs : List A) (v : ℕ)
        → unbeaten version picked (map f rs) v ≡ unbeaten (λ a. version (f a)) (λ a. picked (f a)) rs v
    unbeaten_carried rs v =
        ap (at_most version v) (newest_carried rs) ∙ at_most_carried v (newest (λ a. version (f a)) (λ a. picked (f a)) rs)

  any_carried : (g : B → Bool) (rs : List A) → list_any g (map f rs) ≡ list_any (λ a. g (f a)) rs
  any_carried g [] = refl
  any_carried g (r ∷ rs) = ap (λ b. g (f r) || b) (any_carried g rs)

  module _ (fields : B → Entry) (rs : List A) where
    pub title_carried : (d : ℕ) (n : List ℕ) → title fields (map f rs) d n ≡ carried f (title (λ a. fields (f a)) rs d n)
    title_carried d n = newest_carried (λ e. (fields e).version) (λ e. titled d n (fields e)) rs

    leading_carried : (e : Entry) → leading fields (map f rs) e ≡ leading (λ a. fields (f a)) rs e
    leading_carried e = unbeaten_carried (λ x. (fields x).version) (λ x. titled e.pino e.name (fields x)) rs e.version

    pub counts_carried : (e : Entry) → counts fields (map f rs) e ≡ counts (λ a. fields (f a)) rs e
    unfolding counts
    counts_carried e = ap (λ b. not (eqb e.ino 0) && b) (leading_carried e)

    pub named_carried : (k : ℕ) → named fields (map f rs) k ≡ named (λ a. fields (f a)) rs k
    unfolding named
    named_carried k =
        any_carried (λ e. eqb (fields e).ino k && counts fields (map f rs) (fields e)) rs ∙
        (λ i. list_any (λ a. eqb (fields (f a)).ino k && counts_carried (fields (f a)) i) rs)

    pub needed_entry_carried : (e : Entry) → needed_entry fields (map f rs) e ≡ needed_entry (λ a. fields (f a)) rs e
    unfolding needed_entry
    needed_entry_carried e =
        let l = leading_carried e in
        let o = any_carried (λ x. titled e.pino e.name (fields x) && ltb (fields x).version e.version) rs in
        λ i. l i && (not (eqb e.ino 0) || o i)

  module _ (span : B → Span) (rs : List A) where
    pub last_carried : (k : ℕ) → last span (map f rs) k ≡ carried f (last (λ a. span (f a)) rs k)
    last_carried k = newest_carried (λ c. (span c).version) (λ c. of_file k (span c)) rs

    pub giver_carried : (k i : ℕ) → giver span (map f rs) k i ≡ carried f (giver (λ a. span (f a)) rs k i)
    giver_carried k i = newest_carried (λ c. (span c).version) (λ c. of_file k (span c) && covers i (span c)) rs

    length_carried : (o : Option A) → length_of span (carried f o) ≡ length_of (λ a. span (f a)) o
    length_carried None = refl
    length_carried (Some a) = refl

    shows_carried : (s : Span) (i : ℕ) → shows span (map f rs) s i ≡ shows (λ a. span (f a)) rs s i
    shows_carried s i =
        ap (λ b. covers i s && b)
        (unbeaten_carried (λ c. (span c).version) (λ c. of_file s.ino (span c) && covers i (span c)) rs s.version)

    pub seen_carried : (s : Span) → seen span (map f rs) s ≡ seen (λ a. span (f a)) rs s
    unfolding seen
    seen_carried s =
        let u = unbeaten_carried (λ c. (span c).version) (λ c. of_file s.ino (span c)) rs s.version in
        let l = ap (length_of span) (last_carried s.ino) ∙ length_carried (last (λ a. span (f a)) rs s.ino) in
        λ i. u i || any_below (λ j. shows_carried s j i) (l i)

pub needed_content_carried : {A B C D : Type 0} (f : A → B) (fields : B → Entry) (rs : List A) (g : C → D) (span : D → Span) (qs : List C) (s : Span)
    → needed_content fields span (map f rs) (map g qs) s ≡ needed_content (λ a. fields (f a)) (λ c. span (g c)) rs qs s
needed_content_carried f fields rs g span qs s =
    let n = named_carried f fields rs s.ino in
    let v = seen_carried g span qs s in
    λ i. n i && v i

pub lookups : LookupsOfRecords
lookups = record {
  title = λ fields rs. title_carried fields (λ e. e) rs;
  counts = λ fields rs. counts_carried fields (λ e. e) rs;
  named = λ fields rs. named_carried fields (λ e. e) rs;
  needed_entry = λ fields rs. needed_entry_carried fields (λ e. e) rs;
  last = λ whole rs. last_carried whole span_of rs;
  giver = λ whole rs. giver_carried whole span_of rs;
  seen = λ whole rs. seen_carried whole span_of rs;
  needed_content = λ fields whole rs qs s. needed_content_carried fields (λ e. e) rs whole span_of qs s;
}

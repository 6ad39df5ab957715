-- A block read whole.
use Rattle.std.proofs.Common.{◌≡◌, ℕ, ◌/◌, ◌<◌, Bool, true, false, cond, not, List, [], ◌∷◌, length, get_or, replicate, Some, None, Ok, Err, Option, sym, refl, ap, ◌∙◌, subst, arith}
use Rattle.std.proofs.lemmas.List.{get_or-map, get_or-replicate, take_all}
use Rattle.flash.specs.declared.refusal.Refusal.{Refusal}
use Rattle.flash.specs.declared.refusal.Refusal.TheVariants.{NoPower, Outside, Unreadable}
use Rattle.flash.specs.Cells.{byte, lost}
use Rattle.flash.specs.Meaning.{Meaning, Sane}
use Rattle.flash.specs.Refused.{is_off, outside, first, place_refusal, read_refusal, readable, part}
use Rattle.flash.specs.Rules.{Fetched, refused, done}
use Rattle.flash.proofs.Refusals.{not_some, read_by_place, read_past_place}
use Rattle.nodes.specs.Seen.{seen}
use Rattle.survey.specs.Surveyed.{Fits, Surveyed}
use Rattle.survey.specs.Surveyed as s
use Rattle.survey.proofs.Words.{cell_at, seen_all, shown_whole}

-- why a call for a place is refused, if it is
place_is : (m : Meaning) (b o n : ℕ) → place_refusal m b o n ≡ Some Unreadable → ⊥
unfolding place_refusal
place_is m b o n = go (is_off m.power) (outside m b o n)
  where
    go : (x y : Bool) → cond x (Some NoPower) (cond y (Some Outside) None) ≡ Some Unreadable → ⊥
    go true y q = let z : ◌≡◌ {A = ℕ} 0 1 = cc in omega arith
    go false true q = let z : ◌≡◌ {A = ℕ} 0 1 = cc in omega arith
    go false false q = let z : ◌≡◌ {A = ℕ} 0 1 = cc in omega arith

-- a read is refused for its place, or because something cannot be read
read_is : (m : Meaning) (b o n : ℕ) (e : Refusal) → read_refusal m b o n ≡ Some e → (e ≡ Unreadable → ⊥) → place_refusal m b o n ≡ Some e
read_is m b o n e q k = go (place_refusal m b o n) refl
  where
    by_reading : (t : Bool) → first ((not t, Unreadable) ∷ []) ≡ Some e → ⊥
    by_reading true h = not_some (sym h)
    by_reading false h = let z : Unreadable ≡ e = cc in k (sym z)

    go : (x : Option Refusal) → place_refusal m b o n ≡ x → x ≡ Some e
    go None p = absurd (by_reading (readable (part (m.shown b) o n)) (sym (read_past_place m b o n p) ∙ q))
    go (Some x) p = sym (read_by_place m b o n x p) ∙ q

not_placed : (m : Meaning) (b o n : ℕ) → ((e : Refusal) → read_refusal m b o n ≡ Some e → e ≡ Unreadable) → place_refusal m b o n ≡ None
not_placed m b o n h = go (place_refusal m b o n) refl
  where
    go : (x : Option Refusal) → place_refusal m b o n ≡ x → x ≡ None
    go None p = refl
    go (Some x) p = absurd (place_is m b o n (p ∙ ap Some (h x (read_by_place m b o n x p))))

module _ (m : Meaning) (b : ℕ) (old : List ℕ) (fs : List Bool) (new : List ℕ) where
  pub block_refused : (e : Refusal) → Fetched m b 0 old (Err e) new → (e ≡ Unreadable → ⊥) → Surveyed m b old fs (Err e) new fs
  block_refused e (refused x q r n) k =
      let z : e ≡ x = cc in
      s.refused e (read_is m b 0 (length old) e (q ∙ ap Some (sym z)) k) refl n refl
  block_refused e (done q r c) k = absurd (let z : ◌≡◌ {A = ℕ} 0 1 = cc in omega arith)

  pub block_read : Sane m → (gs : List Bool) → length new ≡ length old → gs ≡ replicate (length fs) true → Fetched m b 0 old (Ok tt) new → Surveyed m b old fs (Ok tt) new gs
  block_read sane gs n g (refused x q r k) = absurd (let z : ◌≡◌ {A = ℕ} 0 1 = cc in omega arith)
  block_read sane gs n g (done q r c) =
      s.done (not_placed m b 0 (length old) (λ e z. absurd (not_some (sym z ∙ q)))) refl
      (λ F. seen_all gs new (m.shown b) (n ∙ shown_whole m b old fs sane F) (at F))
    where
      at : Fits m b old fs → (j : ℕ) → j < length new → cell_at gs new j ≡ get_or (m.shown b) j lost
      at F j l =
          let f = F.flagged in
          let w = F.whole in
          ap (λ t. cond t (byte (get_or new j 0)) lost) (ap (λ hs. get_or hs (j / 4) false) g ∙ get_or-replicate (length fs) (j / 4) true false (omega arith))
          ∙ sym (get_or-map byte new j 0 lost l)
          ∙ ap (λ cs. get_or cs j lost) (c ∙ take_all (length old) (m.shown b) (let h = shown_whole m b old fs sane F in omega arith))

  pub block_words : (bytes : List ℕ) (gs : List Bool) → Fetched m b 0 old (Err Unreadable) new → (Fits m b new fs → seen gs bytes ≡ m.shown b) → Surveyed m b old fs (Ok tt) bytes gs
  block_words bytes gs (refused x q r n) h =
      s.done (not_placed m b 0 (length old) (λ y w. let v : Unreadable ≡ y = cc in sym v)) refl
      (λ F. h (subst (λ (l : List ℕ). Fits m b l fs) (sym n) F))
  block_words bytes gs (done q r c) h = absurd (let z : ◌≡◌ {A = ℕ} 0 1 = cc in omega arith)

-- The promises over every list of edits: an accepted store stays accepted, its chain is whole and meets no record twice, operator
-- edits leave the section as it was, refused edits are no edits, and no other byte changes. Edit by edit.
use Prim.Native.Nat.{ℕ}
use mathlib.Core.Bool.{false}
use mathlib.Core.List.{List, [], ◌∷◌}
use mathlib.Core.Path.{◌≡◌, refl, sym, ap, ◌∙◌}
use lib.ListN.{length, get_or}
use Rattle.section.specs.profile.Replies.{Reply, value, turned_down}
use Rattle.store.specs.Chain.{whole, chain}
use Rattle.store.specs.Store.{chained}
use Rattle.store.specs.Answers.{Accepted}
use Rattle.store.specs.edits.Written.{touches}
use Rattle.store.specs.edits.Edits.{kept}
use Rattle.store.specs.edits.Series.{Space, store, verdict, section, answer, edited, edited_by, carried_out, touched_by, NoRepeats}
use Rattle.store.specs.edits.Series.{Forty, AllForty, none, also, Operators}
use Rattle.store.specs.declared.edits.shapes.Role.TheVariants.{Operator}
use Rattle.store.specs.declared.edits.shapes.Edit.{Edit}
use Rattle.store.proofs.edits.Answered.{refused_nothing}
use Rattle.store.proofs.edits.OneEdit.{stays_accepted, chain_once, operator_keeps_section}
use Rattle.store.proofs.edits.OtherBytes.{neither, other_bytes, same_space}

pub edits_stay_accepted : (h : Space) (es : List Edit) → verdict h ≡ Accepted → verdict (edited_by h es) ≡ Accepted
unfolding edited_by
edits_stay_accepted h [] start = start
edits_stay_accepted h (e ∷ es) start = edits_stay_accepted (edited h e) es (stays_accepted h e start)

-- the chain never meets a record twice
pub edits_keep_chain_whole :
    (h : Space) (es : List Edit) → verdict h ≡ Accepted
    → (chain (store (edited_by h es)) ≡ whole (chained (store (edited_by h es)))) × NoRepeats (chained (store (edited_by h es)))
edits_keep_chain_whole h es start = chain_once (edited_by h es) (edits_stay_accepted h es start)

-- after any edits, by whomever, an operator's edit leaves the section
pub operator_edit_keeps_section :
    (h : Space) (es : List Edit) (e : Edit) → Forty e → e.role ≡ Operator
    → section (edited (edited_by h es) e) ≡ section (edited_by h es)
operator_edit_keeps_section h es e forty operator = operator_keeps_section (edited_by h es) e forty operator

pub operator_edits_keep_section :
    (h : Space) {es : List Edit} → AllForty es → Operators es → section (edited_by h es) ≡ section h
unfolding edited_by
operator_edits_keep_section h none none = refl
operator_edits_keep_section h (also {e} {es} forty wide) (also operator rest) =
    operator_edits_keep_section (edited h e) wide rest ∙ operator_keeps_section h e forty operator

-- the edits that are carried out, alone, make the same of the space
pub refused_edits_are_none : (h : Space) (es : List Edit) → edited_by h (carried_out h es) ≡ edited_by h es
unfolding edited_by carried_out
refused_edits_are_none h [] = refl
refused_edits_are_none h (e ∷ es) = go (answer h e) refl (refused_edits_are_none (edited h e) es) (refused_edits_are_none h es)
  where
    go : (a : Reply ℕ) → answer h e ≡ a → edited_by (edited h e) (carried_out (edited h e) es) ≡ edited_by (edited h e) es
        → edited_by h (carried_out h es) ≡ edited_by h es
        → edited_by h (kept a (e ∷ carried_out (edited h e) es) (carried_out h es)) ≡ edited_by (edited h e) es
    go (value n) q done nothing = done
    go (turned_down n) q done nothing = nothing ∙ ap (λ (g : Space). edited_by g es) (sym (refused_nothing h e q))

-- a byte that no edit of the list touches is as it was
pub edits_other_bytes :
    (h : Space) {es : List Edit} → AllForty es → (i : ℕ) → touched_by h es i ≡ false
    → get_or (edited_by h es).all i 0 ≡ get_or h.all i 0
unfolding edited_by touched_by
edits_other_bytes h none i q = refl
edits_other_bytes h (also {e} {es} forty wide) i q =
    let both = neither (touches (store h) e.place i) (touched_by (edited h e) es i) q in
    edits_other_bytes (edited h e) wide i both.1 ∙ other_bytes h e forty i both.0

pub edits_keep_space : (h : Space) (es : List Edit) → length (edited_by h es).all ≡ length h.all
unfolding edited_by
edits_keep_space h [] = refl
edits_keep_space h (e ∷ es) = edits_keep_space (edited h e) es ∙ same_space h e

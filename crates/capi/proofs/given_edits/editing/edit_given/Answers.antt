-- `capi::given_edits::editing::edit_given` meets its contract: the edit of 40 bytes, or 12.
use Rattle.capi.proofs.given_edits.Edited.{edit_done, edit_refused}
use Rattle.capi.proofs.given_edits.editing.edit_given.Goals as goal

pub returns-then-bytes-eq40 : goal.returns-then-bytes-eq40
returns-then-bytes-eq40 c =
    edit_done _ _ _ _ _ c.if-bytes-eq40.true c.role_of.ensures c.forty.ensures c.edit_store-answer.ensures
    c.give_length.ensures

pub returns : goal.returns
returns c = rw c.number.ensures (edit_refused _ _ _ _ _ c.if-bytes-eq40.false)

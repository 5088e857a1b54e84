use mathlib.Core.Path.{◌≡◌, refl, sym, ap, ◌∙◌}
use lib.Seq.{length-take-le}
use Rattle.std.specs.Prelude.{Ok, Err}
use Rattle.report.specs.declared.program.InputError.{InputError}
use Rattle.report.specs.declared.program.InputError.TheVariants.{TooLong, Failed}
use lib.ListN.{length}
use Rattle.lists.specs.Tables.{filled}
use Rattle.report.specs.Listing.{refused}
use Rattle.report.proofs.Told.{told-read, within}
use Rattle.report.proofs.program.answer.Goals as goal

pub slice_bounds-list_input-end : goal.slice_bounds-list_input-end
slice_bounds-list_input-end c = sym (length-take-le _ _ (within _ _ _ c.in-Ok.is c.requires))

pub returns-in-Ok : goal.returns-in-Ok
returns-in-Ok c =
    let l = c.list_input.ensures in
    let x = told-read _ _ _ _ (Ok c.in-Ok.count) _ _ _ c.in-Ok.is (record { result_value = l.result_value; text_after = l.text_after; left_after = l.left_after }) in
    record { same_lists = l.same_lists; upper_bound = x.upper_bound; result_value = x.result_value; text_after = x.text_after; left_after = x.left_after }

pub returns-in-Err-TooLong : goal.returns-in-Err-TooLong
returns-in-Err-TooLong c =
    let e : c.args.read ≡ Err TooLong = c.in-Err-TooLong.is ∙ ap (λ (x : InputError). Err x) (rw c.in-Err-TooLong.is at c.in-Err-TooLong.field-0-is) in
    let f = c.fill_refusal in
    let x = told-read _ _ _ _ (Err TooLong) _ _ _ e
    (record { result_value = f.ensures.value ∙ ap (λ n. length (refused c.args.text.now n 0)) c.number.ensures; text_after = f.ensures.out_after ∙ ap (λ n. filled (refused c.args.text.now n 0) c.args.text.now) c.number.ensures; left_after = refl }) in
    record { same_lists = (refl, refl, refl); upper_bound = x.upper_bound; result_value = x.result_value; text_after = x.text_after; left_after = x.left_after }

pub returns-in-Err-Failed : goal.returns-in-Err-Failed
returns-in-Err-Failed c =
    let e : c.args.read ≡ Err Failed = c.in-Err-Failed.is ∙ ap (λ (x : InputError). Err x) (rw c.in-Err-Failed.is at c.in-Err-Failed.field-0-is) in
    let x = told-read _ _ _ _ (Err Failed) _ _ _ e (record { result_value = refl; text_after = refl; left_after = refl }) in
    record { same_lists = (refl, refl, refl); upper_bound = x.upper_bound; result_value = x.result_value; text_after = x.text_after; left_after = x.left_after }

use Rattle.std.proofs.Common.{arith, ◌≤◌, ◌^◌, length}
use Rattle.log_model.specs.declared.Version.TheVariants.{Two}
use Rattle.log_model.specs.Logs.{log_text}
use Rattle.run_beginning.proofs.Sizes.{parts_of_beginning}
use Rattle.run_beginning.proofs.parts.split.Goals as goal

pub log_of-beginning-requires : goal.log_of-beginning-requires
log_of-beginning-requires c =
    let short : length (log_text Two c.args.log) ≤ 2 ^ 27 = omega (arith, c.size-size.ensures.length, c.size-size.ensures.limit) in
    let parts = parts_of_beginning c.args.log c.args.steps _ _ _ c.count_before-count.result _ _ _ c.form.ensures short c.requires
    c.pages-pages.ensures c.inputs-inputs.ensures c.digest-digest.ensures c.in_ok-later.ensures.items c.into_records-records.ensures c.records.ensures c.count_before-count.ensures.front in
    record { form = parts.form; limit = parts.limit }

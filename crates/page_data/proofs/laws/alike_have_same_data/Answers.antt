use Rattle.std.proofs.Common.{◌≡◌, List, length}
use Rattle.std.specs.List.{filter}
use Rattle.lists.specs.Sets.{set_of}
use Rattle.flow_model.specs.declared.SourceByte.{SourceByte}
use Rattle.flow_model.specs.declared.StepSeen.{StepSeen}
use Rattle.flow_model.specs.Orders.{source_cmp}
use Rattle.replay_model.specs.Run.{trace}
use Rattle.report_model.specs.Query.{Query, Alike}
use Rattle.report_model.specs.Influence.{sources_of}
use Rattle.report_model.proofs.RowLemmas.{same_rows}
use Rattle.page_data.specs.Data.{asked, data_text}
use Rattle.page_data.specs.PageLaws.{AlikeHaveSameData}
use Rattle.page_data.proofs.laws.alike_have_same_data.Goals as goal

-- what is told of alike queries
same_asked : (q p : Query) (steps : List StepSeen) → Alike q p → asked q steps ≡ asked p steps
same_asked q p steps a = λ i. record {
  rule = a.rule i;
  points = length (a.points i);
  sources = set_of source_cmp (filter (λ (b : SourceByte). a.sources b.channel b.offset i) (sources_of steps));
}

same_data : AlikeHaveSameData
same_data q p state log a = λ i. data_text (same_asked q p (trace state log) a i) log (same_rows q p (trace state log) a i)

pub returns : goal.returns
returns c = same_data

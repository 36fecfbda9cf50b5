-- Where the words are taken, the subcommand's numbers can be read, and it stands for a command with its numbers and its
-- list in their ranges.
use Rattle.std.proofs.Common.{◌≡◌, ◌≤◌, refl, sym, subst, true, false, List, [], ◌∷◌, ◌++◌, map, codes, IsSomeAnd}
use Rattle.std.proofs.lemmas.List.{length-map}
use Rattle.std.proofs.lemmas.List.Elements.{All-weaker}
use Rattle.clap.specs.Walk.{nothing_held, rows_after}
use Rattle.clap.specs.Takes.{level_passes}
use Rattle.clap.specs.Words.{Row, Text, takes, subcommand_of}
use Rattle.clap.specs.Simple.{App, Shape, built_leaf, filled, help_shape, inherited, marked_built, on_top, with_leaf_noted}
use Rattle.clap_command.specs.Plain.{is_plain_subcommand}
use Rattle.clap_command.specs.Values.{number_in, values_of}
use Rattle.clap_command.proofs.Rows.{Only, list-filled, list-length, number-in_range, numbers-in_range, option-in_range, optional-in_range}
use Rattle.clap_command.proofs.Subcommands.{AtTaken, AtEach, at_subcommand, help-not_named}
use Rattle.jet_words.specs.CommandLine.{epoch_option, workers_option, link_option, bench_app, calls_app, convert_app, core_app, decisions_app, influence_app, input_app, jet_app, others, output_app, page_app, path_app, products, queries_app, query_app, record_app, replay_app, show_app, stack_app}
use Rattle.jet_words.specs.Commands.{IsPipeline, IsInRange, pipeline_of, command_by}
use Rattle.jet_words.specs.Numbers.{HasPipelineNumbers, HasNumbers}

pub record IsSound (named : Text × List Row) : Type 0 where
  pub numbers : HasNumbers named
  pub ranges : IsSomeAnd (command_by named) IsInRange

-- a subcommand as it is built
abbrev leaf : App → Shape
leaf a = built_leaf (inherited (on_top with_leaf_noted (on_top marked_built jet_app)).top a.top)

-- ---- the options of the pipeline

record IsPipelineSound (rows : List Row) : Type 0 where
  numbers : HasPipelineNumbers rows
  ranges : IsPipeline (pipeline_of rows)

-- a subcommand has the options, as they are built
abbrev HasOptions : Shape → Type 0
HasOptions s =
    Only s.rules (codes "epoch") (filled epoch_option) × Only s.rules (codes "workers") (filled workers_option)
    × Only s.rules (codes "link") (filled link_option)

pipeline_sound : (s : Shape) (words : List Text) → is_plain_subcommand s ≡ true → HasOptions s → level_passes s [] nothing_held words false ≡ true
    → IsPipelineSound (rows_after s.rules [] words)
pipeline_sound s words plain has e =
    let epoch = optional-in_range s words plain e (codes "epoch") _ 18446744073709551615 1 1099511627776 has.0 refl refl refl in
    let workers = option-in_range s words plain e (codes "workers") _ 4294967295 1 64 has.1 refl refl refl refl in
    let link = optional-in_range s words plain e (codes "link") _ 18446744073709551615 1 65536 has.2 refl refl refl in
    record {
      numbers = (epoch.can_be_read, workers.can_be_read, link.can_be_read);
      ranges = (epoch.in_range, workers.at_least, workers.at_most, link.in_range);
    }

-- ---- each subcommand

-- a subcommand has one name: it has no other's numbers
never : {A : Type 0} → false ≡ true → A
never bad = cc

query_sound : AtTaken IsSound (leaf query_app)
query_sound words e =
    let p = pipeline_sound (leaf query_app) words refl (refl, refl, refl) e in
    record { numbers = (λ here. p.numbers, never, never, never, never, never, never, never, never); ranges = p.ranges }

influence_sound : AtTaken IsSound (leaf influence_app)
influence_sound words e =
    let p = pipeline_sound (leaf influence_app) words refl (refl, refl, refl) e in
    record { numbers = (λ here. p.numbers, never, never, never, never, never, never, never, never); ranges = p.ranges }

path_sound : AtTaken IsSound (leaf path_app)
path_sound words e =
    let p = pipeline_sound (leaf path_app) words refl (refl, refl, refl) e in
    record { numbers = (λ here. p.numbers, never, never, never, never, never, never, never, never); ranges = p.ranges }

show_sound : AtTaken IsSound (leaf show_app)
show_sound words e =
    let p = pipeline_sound (leaf show_app) words refl (refl, refl, refl) e in
    record { numbers = (λ here. p.numbers, never, never, never, never, never, never, never, never); ranges = p.ranges }

replay_sound : AtTaken IsSound (leaf replay_app)
replay_sound words e = record { numbers = (never, never, never, never, never, never, never, never, never); ranges = tt }

calls_sound : AtTaken IsSound (leaf calls_app)
calls_sound words e = record { numbers = (never, never, never, never, never, never, never, never, never); ranges = tt }

input_sound : AtTaken IsSound (leaf input_app)
input_sound words e =
    let channel = number-in_range (leaf input_app) words refl e (codes "C") _ 4294967295 0 15 refl refl refl refl refl in
    record { numbers = (never, λ here. channel.can_be_read, never, never, never, never, never, never, never); ranges = channel.at_most }

output_sound : AtTaken IsSound (leaf output_app)
output_sound words e =
    let channel = number-in_range (leaf output_app) words refl e (codes "C") _ 4294967295 0 15 refl refl refl refl refl in
    record { numbers = (never, never, λ here. channel.can_be_read, never, never, never, never, never, never); ranges = channel.at_most }

stack_sound : AtTaken IsSound (leaf stack_app)
stack_sound words e =
    let times = numbers-in_range (leaf stack_app) words refl e (codes "T") _ 18446744073709551615 0 1099511627776 refl refl refl in
    let as_many = sym (length-map (values_of (codes "T") (rows_after (leaf stack_app).rules [] words)) number_in) in
    record {
      numbers = (never, never, never, λ here. times.can_be_read, never, never, never, never, never);
      ranges = (
        subst (λ n. 1 ≤ n) as_many (list-filled (leaf stack_app) words refl e (codes "T") _ 1 refl refl refl),
        subst (λ n. n ≤ 4096) as_many (list-length (leaf stack_app) words refl e (codes "T") _ 4096 refl refl),
        All-weaker (λ t. (0 ≤ t) × (t ≤ 1099511627776)) (λ t. t ≤ 1099511627776) (λ t is. is.1) _ times.in_range,
      );
    }

decisions_sound : AtTaken IsSound (leaf decisions_app)
decisions_sound words e = record { numbers = (never, never, never, never, never, never, never, never, never); ranges = tt }

page_sound : AtTaken IsSound (leaf page_app)
page_sound words e =
    let p = pipeline_sound (leaf page_app) words refl (refl, refl, refl) e in
    record { numbers = (never, never, never, never, λ here. p.numbers, never, never, never, never); ranges = p.ranges }

record_sound : AtTaken IsSound (leaf record_app)
record_sound words e =
    let pages = option-in_range (leaf record_app) words refl e (codes "pages") _ 4294967295 1 4096 refl refl refl refl refl in
    let piece = option-in_range (leaf record_app) words refl e (codes "piece") _ 4294967295 1 16777216 refl refl refl refl refl in
    let steps = option-in_range (leaf record_app) words refl e (codes "steps") _ 18446744073709551615 1 1099511627776 refl refl refl refl refl in
    record {
      numbers = (never, never, never, never, never, λ here. (pages.can_be_read, piece.can_be_read, steps.can_be_read), never, never, never);
      ranges = (
        list-length (leaf record_app) words refl e (codes "IN") _ 16 refl refl,
        pages.at_least,
        pages.at_most,
        piece.at_least,
        piece.at_most,
        steps.at_least,
        steps.at_most,
      );
    }

convert_sound : AtTaken IsSound (leaf convert_app)
convert_sound words e = record { numbers = (never, never, never, never, never, never, never, never, never); ranges = tt }

core_sound : AtTaken IsSound (leaf core_app)
core_sound words e =
    let time = number-in_range (leaf core_app) words refl e (codes "T") _ 18446744073709551615 0 1099511627776 refl refl refl refl refl in
    record { numbers = (never, never, never, never, never, never, λ here. time.can_be_read, never, never); ranges = time.at_most }

queries_sound : AtTaken IsSound (leaf queries_app)
queries_sound words e =
    let p = pipeline_sound (leaf queries_app) words refl (refl, refl, refl) e in
    record {
      numbers = (never, never, never, never, never, never, never, λ here. p.numbers, never);
      ranges = (
        list-filled (leaf queries_app) words refl e (codes "QUERY") _ 1 refl refl refl,
        list-length (leaf queries_app) words refl e (codes "QUERY") _ 16 refl refl,
        p.ranges,
      );
    }

bench_sound : AtTaken IsSound (leaf bench_app)
bench_sound words e =
    let seed = number-in_range (leaf bench_app) words refl e (codes "SEED") _ 18446744073709551615 0 18446744073709551615 refl refl refl refl refl in
    let steps = number-in_range (leaf bench_app) words refl e (codes "STEPS") _ 18446744073709551615 1 2000000 refl refl refl refl refl in
    let p = pipeline_sound (leaf bench_app) words refl (refl, refl, refl) e in
    record {
      numbers = (never, never, never, never, never, never, never, never, λ here. (seed.can_be_read, steps.can_be_read, p.numbers));
      ranges = (seed.at_most, steps.at_least, steps.at_most, p.ranges);
    }

others_sound : AtEach IsSound (map leaf others ++ built_leaf help_shape ∷ [])
others_sound = (λ word named other. stack_sound, (λ word named other. decisions_sound, (λ word named other. page_sound, (λ word named other. record_sound, (λ word named other. convert_sound, (λ word named other. core_sound, (λ word named other. queries_sound, (λ word named other. bench_sound, (help-not_named IsSound, tt)))))))))

products_sound : AtEach IsSound (map leaf products ++ map leaf others ++ built_leaf help_shape ∷ [])
products_sound = (λ word named other. replay_sound, (λ word named other. calls_sound, (λ word named other. input_sound, (λ word named other. output_sound, others_sound))))

-- the subcommand that the words name, where they are taken
pub taken_sound : (words : List Text) → takes jet_app words ≡ true → IsSomeAnd (subcommand_of jet_app words) IsSound
taken_sound words = at_subcommand IsSound jet_app words refl (λ word named other. query_sound, (λ word named other. influence_sound, (λ word named other. path_sound, (λ word named other. show_sound, products_sound))))

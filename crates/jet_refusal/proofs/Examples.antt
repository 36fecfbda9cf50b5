-- Lines of refusals, letter for letter.
use Rattle.std.specs.Prelude.{◌≡◌, List, ◌∷◌, [], map, codes, pos, negsuc, refl}
use Prim.Native.String.{String}
use Rattle.std.specs.Fmt.{digits}
use Rattle.hex.specs.Hex.{encode_with}
use Rattle.elf_model.specs.declared.ImageKind.TheVariants as image
use Rattle.log_model.specs.declared.LogKind.TheVariants as log
use Rattle.flow_model.specs.declared.Rule.TheVariants as rule
use Rattle.report_model.specs.declared.QueryKind.TheVariants as query
use Rattle.replay_model.specs.declared.Field.TheVariants as field
use Rattle.no_memory.specs.declared.NoMemory.{NoMemory}
use Rattle.jet_refusal.specs.declared.refusal.Refusal.{Refusal}
use Rattle.jet_refusal.specs.declared.refusal.Refusal.TheVariants as refusal
use Rattle.jet_refusal.specs.Refusals.{line_of}

abbrev lines : List (Refusal × String)
lines =
    (refusal.Usage, "jet: usage\n") ∷
    (refusal.Image image.Short, "jet: image 1 Short\n") ∷
    (refusal.Image image.Segment, "jet: image 8 Segment\n") ∷
    (refusal.Window 1, "jet: window 1\n") ∷
    (refusal.Log log.Trailing 107, "jet: log 7 Trailing at 107\n") ∷
    (refusal.Log log.Bytes 48, "jet: log 8 Bytes at 48\n") ∷
    (refusal.Program (0x0f ∷ 0xa0 ∷ []) (0x00 ∷ 0xff ∷ []), "jet: program kept 0fa0 seen 00ff\n") ∷
    (refusal.Diverged (record { step = 8; field = field.Byte 2; kept = pos 88; seen = pos 67 }), "jet: diverged at 8 byte 2 kept 88 seen 67\n") ∷
    (refusal.Diverged (record { step = 8; field = field.Result; kept = negsuc 8; seen = pos 4 }), "jet: diverged at 8 result kept -9 seen 4\n") ∷
    (refusal.Query 2 query.Range, "jet: query line 2 Range\n") ∷
    (refusal.Query 0 query.NoRule, "jet: query line 0 NoRule\n") ∷
    (refusal.QueryOf 3 2 query.Word, "jet: query 3 line 2 Word\n") ∷
    (refusal.QueryOf 16 0 query.NoRule, "jet: query 16 line 0 NoRule\n") ∷
    (refusal.Rules rule.Copy 2 rule.Compute, "jet: rules copy 2 compute\n") ∷
    (refusal.Rules rule.Keep 2 rule.Copy, "jet: rules keep 2 copy\n") ∷
    (refusal.Rules rule.Compute 16 rule.Index, "jet: rules compute 16 index\n") ∷
    (refusal.TooLong, "jet: limit file\n") ∷
    (refusal.LogTooLong 83558562, "jet: limit log 83558562\n") ∷
    (refusal.TooManyEpochs 4097, "jet: limit epochs 4097\n") ∷
    (refusal.ReadFault, "jet: read fault\n") ∷
    (refusal.WriteFault, "jet: write fault\n") ∷ (
      refusal.Diverged (record { step = 18446744073709551615; field = field.Byte 4294967295; kept = negsuc 9223372036854775807; seen = pos 9223372036854775807 }),
      "jet: diverged at 18446744073709551615 byte 4294967295 kept -9223372036854775808 seen 9223372036854775807\n",
    ) ∷ []

each_line : map (λ row. line_of row.0) lines ≡ map (λ row. codes row.1) lines
unfolding digits encode_with
each_line = refl

out_of_memory : (no_memory : NoMemory) → line_of (refusal.NoMemory no_memory) ≡ codes "jet: memory\n"
out_of_memory no_memory = refl

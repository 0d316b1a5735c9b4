mod KillLaws

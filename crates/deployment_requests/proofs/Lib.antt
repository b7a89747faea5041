mod OneTemplate
